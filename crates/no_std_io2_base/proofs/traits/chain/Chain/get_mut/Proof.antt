-- `get_mut` lends both readers, and the chain follows them: its mark stays. Assumes `Logic`.
use mathlib.{Core.Path.{◌≡◌, refl}, Core.Bool.{Bool, true, false}, Core.List.{List, [], ◌∷◌}}
use Prim.Native.Nat.{ℕ, ◌+◌}
use seplogic.Ra.Ura.{Ura}
use base.{Fraction.{full_share}, Logic.{SProp, ent, sep, emp, ex}, Fml.{Lft, GName, Share, ftrue, fobs, fbor, flft}}
use mir.{Syntax.{Fn, ty_bool, a_type, named}, MapTy.{inst_fn}, Val.{Val, vptr, vstruct, vcons, vnil}}
use prog.{Memory.{Memory, up, align, size}, Routine.{Routine}, Wp.{WpFn, Tables}}
use types.{Logic.{Logic, sem}, Kit.{keep, drop, split3, join, pick, fsplit, fsplit3, fjoin, fjoin3, fpack, feq_i, suffices, frame, mean, ‵}}
use types.{Kit.{raw, ◌⊛◌, some, later, ◌$◌, ◌∵◌, !, qed, move, use0, use1, use2, split, group, await, updating, now, done, by}, Part.{agg}}
use types.{Run.{stop, fld, addr, and_then, no_more, returns, enter}, ByLocal.{alloc_all, pass_all, free_all, look_at, get, through, sets}}
use types.{Mut.{open_ref}, SemTy.{Body as Borrowed}, Follow.{after₂, takes_two}}
use contract.{BorrowLft.{◌⊑◌}, Monad.{Fun, fact, fact_i}, Running.{tables, tables_of}}
use sound.WpLaws.{WpFn-mono}
use denote.{Exit.{no}, RattleType.{RattleType, Valss, owns}, Ref.{MutBor, MutRef, mut_vals, mut_Tells}, Follow.{both_by}, Signature.{plain}}
use denote.{Signature.{types_at, mut_ref_to}, Steps.{nothing}, Triple.Clauses.{Clauses, Ended, closing}, Triple.Spec.{Meets, triple_of}}
use denote.{Triple.Table.{entered}, Triple.Walked.{Stays, stay_dropped, walk_of, ends_at, walked, Goes-spent_ref, walk_Meets}, Memory.{mem}}
use denote.{Memory.{part_at}, Laws.{Lawfuls}, Plain.{bool_Lawful}, Param.{param, layout, layouts}, Param.Laws.{Laws, param_laws}}
use denote.{Builtin.{bool}, Struct.Declared.{shape}, Struct.Members.{Member, rows_of}, Struct.Struct.{within}, Struct.Tuple.{tuple_type}}
use borrow.Struct.LendTwo.{but_same, kept_but, cuts_but, fills_but, cuts_first, Fills-first}
use Rattle.no_std_io2_base.specs.inner.Chain.{chain_with_readers}
use Rattle.no_std_io2_base.specs.contracts.traits.chain.Chain as chain
use Rattle.no_std_io2_base.specs.contracts.traits.chain.Chain.get_mut as F
use Rattle.no_std_io2_base.specs.contracts.traits.chain.Chain.get_mut.Key.{name as #self}
use Rattle.no_std_io2_base.proofs.traits.chain.Chain.get_mut.Statement.{statement}
use Rattle.no_std_io2_base.proofs.traits.chain.Chain.get_mut.Code as code

module _ (X Y : RattleType) (LX : Laws X) (LY : Laws Y) where
  abbrev T : RattleType
  T = param 0 X

  abbrev U : RattleType
  U = param 1 Y

  abbrev C : RattleType
  C = chain.the_row T U

  abbrev first_at : ℕ
  first_at = up (align (layout X)) 0

  abbrev second_at : ℕ
  second_at = up (align (layout Y)) (first_at + size (layout X))

  abbrev members : List Member
  members = record { row = T; ty = layout X } ∷ record { row = U; ty = layout Y } ∷ record { row = bool; ty = ty_bool } ∷ []

  abbrev put_first : C.Denot → T.Denot → C.Denot
  put_first c x = record c { first = x }

  abbrev put_second : C.Denot → U.Denot → C.Denot
  put_second c y = record c { second = y }

  module _ {M : Type 1} {𝓤 : Ura M} (𝓛 : Logic 𝓤) where
    open 𝓛 use {H, A}

    abbrev kept : List Bool → C.Denot → ℕ → ℕ → SProp 𝓤
    kept mk c b o =
        mean 𝓛
        (kept_but (chain.struct T U).name members C.Denot (chain.the_type T U).to (chain.the_type T U).to_one mk M 𝓤 𝓛 c
        b o)

    lawfuls : Lawfuls 𝓛 (rows_of members)
    lawfuls = ((param_laws 0 X LX).lawful 𝓛, ((param_laws 1 Y LY).lawful 𝓛, (bool_Lawful 𝓛, tt)))

    cut : (c : C.Denot) (b o : ℕ)
        → ent 𝓤 (sem 𝓛 (part_at C full_share c b o))
        (sep 𝓤 (sem 𝓛 (part_at T full_share c.first b (o + first_at))) (kept (true ∷ false ∷ false ∷ []) c b o))
    cut =
        cuts_first (chain.struct T U).name members C.Denot (chain.the_type T U).to (chain.the_type T U).to_one 𝓛 lawfuls 0
        tt T first_at (λ c. c.first) (λ c b o. refl)

    cut_on : (c : C.Denot) (b o : ℕ)
        → ent 𝓤 (kept (true ∷ false ∷ false ∷ []) c b o)
        (sep 𝓤 (sem 𝓛 (part_at U full_share c.second b (o + second_at))) (kept (true ∷ true ∷ false ∷ []) c b o))
    cut_on =
        cuts_but (chain.struct T U).name members C.Denot (chain.the_type T U).to (chain.the_type T U).to_one
        (true ∷ false ∷ false ∷ []) 1 tt U second_at (λ c. c.second) (λ c b o. refl) M 𝓤 𝓛

    fill_on : (c : C.Denot) (y : U.Denot) (b o : ℕ)
        → ent 𝓤 (sep 𝓤 (sem 𝓛 (part_at U full_share y b (o + second_at))) (kept (true ∷ true ∷ false ∷ []) c b o))
        (kept (true ∷ false ∷ false ∷ []) (put_second c y) b o)
    fill_on =
        fills_but (chain.struct T U).name members C.Denot (chain.the_type T U).to (chain.the_type T U).to_one
        (true ∷ false ∷ false ∷ []) 1 tt U second_at put_second (λ c f b o. refl)
        (λ c f b o. but_same full_share members 0 ((chain.the_type T U).to (put_second c f)) ((chain.the_type T U).to c)
        b o (true ∷ true ∷ false ∷ []) (refl, tt))
        M 𝓤 𝓛

    fill : (c : C.Denot) (x : T.Denot) (b o : ℕ)
        → ent 𝓤 (sep 𝓤 (sem 𝓛 (part_at T full_share x b (o + first_at))) (kept (true ∷ false ∷ false ∷ []) c b o))
        (sem 𝓛 (part_at C full_share (put_first c x) b o))
    fill =
        Fills-first (chain.struct T U).name members C.Denot (chain.the_type T U).to (chain.the_type T U).to_one 0 tt T
        first_at put_first (λ c f b o. refl)
        (λ c f b o. but_same full_share members 0 ((chain.the_type T U).to (put_first c f)) ((chain.the_type T U).to c)
        b o (true ∷ false ∷ false ∷ []) (refl, (refl, tt)))
        M 𝓤 𝓛

    module _ (κ : Lft) (q : Share) (b o : ℕ) (γ : GName) (c : C.Denot) where
      back : (x : T.Denot) (y : U.Denot)
          → ent 𝓤
          (sep 𝓤 (sem 𝓛 ((mem T).own_at x b (o + first_at)))
          (sep 𝓤 (sem 𝓛 ((mem U).own_at y b (o + second_at))) (kept (true ∷ true ∷ false ∷ []) c b o)))
          (sem 𝓛 ((mem C).own_at (chain_with_readers c x y) b o))
      back x y =
          qed 𝓛
          (‵ (part_at T full_share x b (o + first_at)) ∷ ‵ (part_at U full_share y b (o + second_at))
          ∷ raw (kept (true ∷ true ∷ false ∷ []) c b o) ∷ [])
          ∵
          move ! (1 ∷ 2 ∷ []) $ use2 𝓛 (raw (kept (true ∷ false ∷ false ∷ []) (put_second c y) b o)) (fill_on c y b o) $
          move ! (1 ∷ 0 ∷ []) $ by ! (fill (put_second c y) x b o)

      abbrev Lent : GName × GName → SProp 𝓤
      Lent γs = sep 𝓤 (sep 𝓤 (A.obs γs.0 (T.coded.code c.first)) (A.bor κ (Borrowed (mem T) b (o + first_at) γs.0)))
          (sep 𝓤 (sep 𝓤 (A.obs γs.1 (U.coded.code c.second)) (A.bor κ (Borrowed (mem U) b (o + second_at) γs.1)))
          (sep 𝓤 (A.lft κ q) (sem 𝓛 (after₂ (mem C) (mem T) (mem U) γ γs.0 γs.1 (chain_with_readers c)))))

      lends : ent 𝓤 (sep 𝓤 (A.obs γ (C.coded.code c)) (sep 𝓤 (A.bor κ (Borrowed (mem C) b o γ)) (A.lft κ q))) (H.⇛ (ex 𝓤 Lent))
      lends = qed 𝓛 (‵ (fobs γ (C.coded.code c)) ∷ ‵ (fbor κ (Borrowed (mem C) b o γ)) ∷ ‵ (flft κ q) ∷ []) ∵ updating ! $
          open_ref ! tt (mem C) {b = b} {o = o} $ use1 𝓛
          (‵ (part_at T full_share c.first b (o + first_at)) ⊛ raw (kept (true ∷ false ∷ false ∷ []) c b o))
          (cut c b o) $ split ! $
          move ! (1 ∷ []) $ use1 𝓛
          (‵ (part_at U full_share c.second b (o + second_at)) ⊛ raw (kept (true ∷ true ∷ false ∷ []) c b o))
          (cut_on c b o) $ split ! $
          move ! (3 ∷ 4 ∷ 5 ∷ 2 ∷ 0 ∷ 1 ∷ []) $ group ! 6 $
          use1 𝓛 (later (raw (ex 𝓤 Lent)))
          (takes_two 𝓛 (mem C) (mem T) (mem U) (chain_with_readers c) κ q b o b (o + first_at) b (o + second_at) γ
          (kept (true ∷ true ∷ false ∷ []) c b o) back (C.coded.code c) (C.coded.code c) c.first c.second)
          $ await ! tt $ now ! $ done !

  abbrev here : Fn
  here = inst_fn (layouts (a_type ∷ a_type ∷ []) (X, (Y, tt))) code.function

  abbrev ended : Ended
  ended = F.ended X Y

  abbrev stayed : Stays ended.signature.params ended.kept
  stayed = (stay_dropped (mut_ref_to (0 ∷ []) tt (plain (λ _. C))) no, tt)

  module _ {M : Type 1} {𝓤 : Ura M} (𝓛 : Logic 𝓤) (at_mem : Memory → SProp 𝓤) (run : Routine → Fun 𝓤) (𝓣 : Tables 𝓤 𝓛.H) where
    open 𝓛 use {H}

    abbrev held : Clauses 𝓤 ended
    held = F.clauses X Y 𝓛 at_mem run

    abbrev Bound : Type 0
    Bound = (walk_of 𝓛 ended stayed held).Ghost

    abbrev spelled : Bound → Bound
    spelled z = ((z.0.0, z.0.1, z.0.2, z.0.3, (mut_vals z.0.3.0, tt)), z.1)

    walk : (z : Bound)
        → ent 𝓤 ((walk_of 𝓛 ended stayed held).pre (spelled z))
        (WpFn 𝓤 H 𝓣.C 𝓣.Λ here ((walk_of 𝓛 ended stayed held).args (spelled z))
        ((walk_of 𝓛 ended stayed held).post (spelled z)))
    unfolding both_by
    walk z =
        let κ = z.0.0.0 in let κ₁ = z.0.0.1.0 in let κ₂ = z.0.0.1.1.0 in let q = z.0.1.0 in let q₁ = z.0.1.1.0 in let q₂ = z.0.1.1.1.0 in
        let b : ℕ = z.0.3.0.ref_ptr.0 in let o : ℕ = z.0.3.0.ref_ptr.1 in let γ : GName = z.0.3.0.ghost_name in
        let c : C.Denot = z.0.3.0.now in
        let v : Val = vstruct (vcons (vptr b (o + first_at)) (vcons (vptr b (o + second_at)) vnil)) in
        qed 𝓛
        (((‵ (flft κ q) ⊛ ‵ (flft κ₁ q₁) ⊛ ‵ (flft κ₂ q₂) ⊛ ‵ ftrue) ⊛ ‵
        (owns (types_at ended.signature.params z.0.0) z.0.3 (spelled z).0.4))
        ∷ (raw (fact 𝓤 (κ₁ ⊑ X.lives)) ⊛ raw (fact 𝓤 (κ₂ ⊑ Y.lives)) ⊛ ‵ ftrue) ∷ []) ∵
        move ! (1 ∷ []) $ drop ! $ split ! $ split ! $ move ! (2 ∷ []) $ fsplit ! $ fsplit3 ! $ keep ! (1 ∷ 2 ∷ 4 ∷ 5 ∷ []) $
        enter ! 𝓣.C 𝓣.Λ here (vptr b o ∷ []) _ $ alloc_all ! (λ l. pass_all ! refl ((tt, tt), tt) $
        sets ! (addr ! (through ! refl (fld ! refl (stop !)))) refl (tt, tt) $
        sets ! (addr ! (through ! refl (fld ! refl (stop !)))) refl (tt, tt) $
        sets ! (agg ! (and_then ! (get ! refl) (and_then ! (get ! refl) (no_more !)))) refl (tt, (tt, (tt, tt))) $
        group ! 3 $
        use1 𝓛
        (later
        (some
        (λ (γs : GName × GName).
        (‵ (fobs γs.0 (T.coded.code c.first)) ⊛ ‵ (fbor κ (Borrowed (mem T) b (o + first_at) γs.0)))
        ⊛ (‵ (fobs γs.1 (U.coded.code c.second)) ⊛ ‵ (fbor κ (Borrowed (mem U) b (o + second_at) γs.1))) ⊛ ‵ (flft κ q)
        ⊛ ‵ (after₂ (mem C) (mem T) (mem U) γ γs.0 γs.1 (chain_with_readers c)))))
        (lends 𝓛 κ q b o γ c) $ await ! tt $ pick ! (λ γs. split3 ! $
        let one : MutBor T.Denot = record { ref_ptr = (b, o + first_at); ghost_name = γs.0; now = c.first } in
        let two : MutBor U.Denot = record { ref_ptr = (b, o + second_at); ghost_name = γs.1; now = c.second } in
        let rows : List RattleType = MutRef (named 0) κ T ∷ MutRef (named 0) κ U ∷ [] in
        split ! $ feq_i ! (List Val) (vptr b (o + first_at) ∷ []) (vptr b (o + first_at) ∷ []) refl $ fjoin3 ! $
        move ! (1 ∷ []) $ split ! $ feq_i ! (List Val) (vptr b (o + second_at) ∷ []) (vptr b (o + second_at) ∷ []) refl $ fjoin3 ! $
        nothing ! $ move ! (1 ∷ 0 ∷ []) $ fjoin ! $ move ! (1 ∷ 0 ∷ []) $ fjoin ! $
        feq_i ! (List Val) (v ∷ []) (v ∷ []) refl $ fjoin ! $
        fpack ! (Valss rows) (within (shape (tuple_type rows)) (one, (two, tt)) (v ∷ []))
        (vptr b (o + first_at) ∷ [], (vptr b (o + second_at) ∷ [], tt)) $
        returns ! (look_at ! 0 refl) $ free_all ! refl $
        suffices ! _ (ends_at 𝓛 ended stayed held (spelled z) v (one, two) (tt, tt) (tt, tt)) $
        nothing ! $ nothing ! $ fjoin ! $ join ! $ move ! (1 ∷ []) $ split ! $ move ! (0 ∷ 3 ∷ []) $ join ! $ move !
        (0 ∷ 2 ∷ []) $ join ! $ frame ! $
        use0 𝓛 (raw (fact 𝓤 (c.second ≡ c.second))) (fact_i 𝓤 _ (emp 𝓤) refl) $ join ! $
        use0 𝓛 (raw (fact 𝓤 (c.first ≡ c.first))) (fact_i 𝓤 _ (emp 𝓤) refl) $ join ! $ done !))

    meets : Meets 𝓛 ended.signature (WpFn 𝓤 H 𝓣.C 𝓣.Λ here) (closing 𝓛 ended held)
    meets =
        walk_Meets 𝓛 ended stayed (Goes-spent_ref 𝓛 3 (0 ∷ []) tt (plain (λ _. C)), tt) held (WpFn 𝓤 H 𝓣.C 𝓣.Λ here)
        (WpFn-mono 𝓤 H 𝓛.laws 𝓣 here)
        (walked 𝓛 ended stayed held (WpFn 𝓤 H 𝓣.C 𝓣.Λ here) (λ κs. (mut_vals, tt)) (λ κs. (mut_Tells (named 0) κs.0 C, tt))
        (λ κs qs bounds a g are. walk ((κs, qs, bounds, a, (mut_vals a.0, tt)), g)))

pub get_mut_spec : {M : Type 1} → statement M
unfolding tables_of
get_mut_spec 𝓤 𝓛 𝓜 𝓡 wired X Y LX LY =
    let 𝓣 : Tables 𝓤 𝓛.H = tables_of 𝓤 𝓛.H 𝓜 (tables 𝓤 𝓛.H 𝓜 𝓡 𝓡.env) in
    entered 𝓤 𝓛.H (triple_of 𝓛 (ended X Y LX LY).signature (F.spec X Y 𝓛 𝓜.mem 𝓡.returns)) 𝓣.C 𝓣.Λ
    (#self (layouts (a_type ∷ a_type ∷ []) (X, (Y, tt)))) (here X Y LX LY)
    (code.unfolded 𝓤 𝓛.H 𝓜 𝓡 wired (X, (Y, tt)))
    (meets X Y LX LY 𝓛 𝓜.mem 𝓡.returns 𝓣)

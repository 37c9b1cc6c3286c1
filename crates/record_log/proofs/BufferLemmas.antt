-- A buffer in front of a writer that puts its bytes at a place puts them there too.
use Rattle.no_std_io2.proofs.Words.{common_steps, ◌≡◌, ℕ, ◌+◌, ◌<◌, ◌≤◌, List, [], ◌∷◌, ◌++◌, length, take, refl, sym, ap, subst, ◌∙◌}
use Rattle.no_std_io2.proofs.Words.{arith, OnOk, length-append, inl, inr, Result, Ok, Err, Writes, Made, CallOf, RoomCalls, WriteCalls}
use Rattle.no_std_io2.proofs.Words.{WriteAllCalls, FlushCalls, SendCalls, SingleCall, AllCalls, InnerCalls, first_stops, first_goes_on}
use Rattle.no_std_io2.proofs.Words.{no_write, write_took, write_again, write_stuck, write_fault, Writer, Then, WriteCall, Wrote, WroteAll}
use Rattle.no_std_io2.proofs.Words.{Flushed, Step, SendLinesCalls, lines_of, unfinished_line, take-append-le, cases_lt, take-append_seam}
use Rattle.no_std_io2.proofs.{Words.{length-take-le}, CallsLemmas.{made_split, writes_whole}, LineWriterStates.{took_tail}}
use Rattle.no_std_io2.{proofs.LineLemmas.{lines_split}, specs.{declared.io.Error.{Error}, inner.BufWriter.{PutCalls, WithNothingHeld}}}
use Rattle.no_std_io2.specs.inner.LineWriter.{LineCalls, LinesCalls, SendLineCalls, held_tail}
use Rattle.std.proofs.{Math.Seq.{take-length, take-append-add}, lemmas.List.{take_all}}
use Rattle.record_log.specs.Placed.{IsPutAt, PutsAt, PutsCall, GoesNoFurther, held_over}
use Rattle.record_log.proofs.PlacedLemmas.{Stands, stands_held, writes_there, reaches_there, whole_there, put_behind, put_then}

-- the held bytes are put over a content
over_put : (c : List ℕ) (p : ℕ) (held : List ℕ) → IsPutAt p held c (held_over c p held)
over_put c p held = grind (arith, common_steps)

-- and if there are some, nothing else is
put_over_is : (c new : List ℕ) (p : ℕ) (held : List ℕ) → 0 < length held → IsPutAt p held c new → new ≡ held_over c p held
put_over_is c new p held some put = grind (arith, common_steps)

-- more bytes are held
over_more : (c : List ℕ) (p : ℕ) (held x : List ℕ) → IsPutAt (p + length held) x (held_over c p held) (held_over c p (held ++ x))
over_more c p [] x = subst (λ q. IsPutAt q x c (held_over c p x)) (let same : p ≡ p + 0 = omega arith in same) (over_put c p x)
over_more c p (b ∷ held) x = inl (sym (put_behind p c (b ∷ held) x))

-- of the bytes y and u, what is a front of y
front_first : (n : ℕ) (y u : List ℕ) → (m : ℕ) × ((k : ℕ) → k ≤ n → k ≤ length y → k ≤ m) × (take n y ≡ take m (y ++ u))
front_first n y u = grind (arith, common_steps, cases_lt n (length y), take-append-le n y u, take_all n y, take-append_seam y u)

module _ {W : Type 0} (I : Writer W) (content : W → List ℕ) (place : W → ℕ) (puts : PutsAt I content place) where
  -- what a writer has once the held bytes are put
  abbrev pub over : W → List ℕ → List ℕ
  over w held = held_over (content w) (place w) held

  -- A step of a buffer does to these what one call does.
  abbrev pub Does : W → List ℕ → WriteCall → W → List ℕ → Type 0
  Does old held call new left = PutsCall (over old held) (place old + length held) call (over new left) (place new + length left)

  -- Nothing changes.
  record Stays (old : W) (held : List ℕ) (new : W) (left : List ℕ) : Type 0 where
    same : over new left ≡ over old held
    at : place new + length left ≡ place old + length held

  -- the held bytes are sent
  sent : {text : List ℕ} {C : List WriteCall} (held : List ℕ) {left : List ℕ} {reply : Result (Unit {0}) Error} (old new : W)
      → Writes text C held reply left → Made (CallOf I) old C new → Stays old held new left
  sent [] old new no_write made = subst (λ w. Stays old [] w []) (sym made) (record { same = refl; at = refl })
  sent [] old new (write_took some more next) made = absurd (omega (arith, some))
  sent [] old new (write_again some is next) made = absurd (omega (arith, some))
  sent [] old new (write_stuck some says) made = absurd (omega (arith, some))
  sent [] old new (write_fault some is) made = absurd (omega (arith, some))
  sent (b ∷ held) {left} old new writes made =
      let there = writes_there I content place puts old new writes made (stands_held (place old) (b ∷ held) (content old)) in record {
        same = put_over_is (content old) _ (place old) (b ∷ held) (omega arith)
            (whole_there there (over new left) (over_put (content new) (place new) left));
        at = reaches_there there;
      }

  -- no call is made
  kept : {C : List WriteCall} {held left : List ℕ} (old new : W) → C ≡ [] → left ≡ held → Made (CallOf I) old C new
      → Stays old held new left
  kept old new none is made = grind (arith, common_steps)

  -- room is made
  roomed : (S n : ℕ) (C : List WriteCall) (held left : List ℕ) (reply : Result (Unit {0}) Error) (old new : W)
      → RoomCalls S n held C reply left → Made (CallOf I) old C new → Stays old held new left
  roomed S n C held left reply old new room made = grind (arith, common_steps, kept, sent)

  -- a call of the inner writer, with nothing held
  passed : (call : WriteCall) (held left : List ℕ) (old new : W) → held ≡ [] → left ≡ [] → CallOf I old call new
      → Does old held call new left
  passed call held left old new none empty did = grind (arith, common_steps, puts old new call did)

  -- the same of a call that is the only one
  passed_one : {C : List WriteCall} (call : WriteCall) (held left : List ℕ) (old new : W) → held ≡ [] → left ≡ [] → C ≡ call ∷ []
      → Made (CallOf I) old C new → Does old held call new left
  passed_one call held left old new none empty is made = grind (arith, common_steps, passed)

  -- the calls of a `write_all` of the inner writer
  pub passed_all : {C : List WriteCall} (x held left : List ℕ) (reply : Result (Unit {0}) Error) (old new : W) → held ≡ [] → left ≡ []
      → AllCalls C x reply → Made (CallOf I) old C new → Does old held (WroteAll x reply) new left
  passed_all x held left reply old new none empty (inl one) made = passed_one (WroteAll x reply) held left old new none empty one made
  passed_all x held left reply old new none empty (inr loop) made =
      let there = writes_there I content place puts old new loop.1 made (stands_held (place old) x (content old)) in
      subst (λ h. Does old h (WroteAll x reply) new left) (sym none) (subst (λ l. Does old [] (WroteAll x reply) new l) (sym empty)
      (all_put x reply loop.0 old new there (writes_whole loop.1)))
    where
      all_put : (x : List ℕ) (reply : Result (Unit {0}) Error) (left : List ℕ) (old new : W)
          → Stands (place old) x (content old) (content new) (place new) left → OnOk reply (left ≡ [])
          → Does old [] (WroteAll x reply) new []
      all_put x (Ok u) left old new s whole = grind (arith, common_steps, whole_there s (content new), reaches_there s)
      all_put x (Err e) left old new s whole = grind (arith, common_steps)

  -- A step of a buffer does what a call with its result does; or changes nothing.
  abbrev pub Puts : {A : Type 0} → (Result A Error → WriteCall) → Step A → Type 0
  Puts {A} call step = (C : List WriteCall) (held left : List ℕ) (reply : Result A Error) (old new : W) → step held C reply left
      → Made (CallOf I) old C new → Does old held (call reply) new left

  abbrev Sends : Step (Unit {0}) → Type 0
  Sends step = (C : List WriteCall) (held left : List ℕ) (reply : Result (Unit {0}) Error) (old new : W) → step held C reply left
      → Made (CallOf I) old C new → Stays old held new left

  -- a step that changes nothing, and then what a call does
  then_puts : {A : Type 0} (call : Result A Error → WriteCall) (first : Step (Unit {0})) (next : Step A) → Sends first
      → ((e : Error) (old new : W) (held left : List ℕ) → Stays old held new left → Does old held (call (Err e)) new left)
      → Puts call next → Puts call (Then first next)
  then_puts call first next sends stops puts_next C held left reply old new (first_stops {e = e} fails) made =
      stops e old new held left (sends C held left (Err e) old new fails made)
  then_puts call first next sends stops puts_next C held left reply old new
      (first_goes_on {C = B} {D = D} {mid = mid} goes more) made =
      let split = made_split (CallOf I) B old D new made in
      let stays = sends B held mid (Ok tt) old split.0 goes split.1 in
      rw (← stays.at, ← stays.same) (puts_next D mid left reply split.0 new more split.2)

  -- after such a step that failed, nothing was accepted
  wrote_stops : (x : List ℕ) (e : Error) (old new : W) (held left : List ℕ) → Stays old held new left
      → Does old held (Wrote x (Err e)) new left
  wrote_stops x e old new held left stays = ((0, inr (refl, stays.same)), stays.at)

  wrote_all_stops : (x : List ℕ) (e : Error) (old new : W) (held left : List ℕ) → Stays old held new left
      → Does old held (WroteAll x (Err e)) new left
  wrote_all_stops x e old new held left stays = (0, 0, omega arith, inr (refl, stays.same), omega (arith, stays.at))

  -- x is held, or passed on
  put_puts : {A : Type 0} (call : Result A Error → WriteCall) (S : ℕ) (x : List ℕ) (v : A) (past : List WriteCall → Result A Error → Type 0)
      → ((w : W) (held : List ℕ) → Does w held (call (Ok v)) w (held ++ x)) → Puts call (WithNothingHeld past)
      → Puts call (PutCalls S x v past)
  put_puts call S x v past holds passes C held left reply old new (inl kept) made = grind (arith, common_steps, holds)
  put_puts call S x v past holds passes C held left reply old new (inr beyond) made = passes C held left reply old new beyond.1 made

  -- the calls of a `write` through a buffer of S bytes
  write_puts : (S : ℕ) (x : List ℕ) → Puts (Wrote x) (WriteCalls S x)
  write_puts S x = then_puts (Wrote x) (RoomCalls S (length x)) _ (roomed S (length x)) (wrote_stops x)
      (put_puts (Wrote x) S x (length x) (SingleCall (Wrote x)) held_whole
      (λ C held left reply old new past made. passed_one (Wrote x reply) held left old new past.0 past.1 past.2 made))
    where
      held_whole : (w : W) (held : List ℕ) → Does w held (Wrote x (Ok (length x))) w (held ++ x)
      held_whole w held = (
        subst (λ y. IsPutAt (place w + length held) y (over w held) (over w (held ++ x))) (sym (take-length x))
            (over_more (content w) (place w) held x),
        omega (arith, length-append held x),
      )

  -- of a `write_all`
  write_all_puts : (S : ℕ) (x : List ℕ) → Puts (WroteAll x) (WriteAllCalls S x)
  write_all_puts S x = then_puts (WroteAll x) (RoomCalls S (length x)) _ (roomed S (length x)) (wrote_all_stops x)
      (put_puts (WroteAll x) S x tt (λ C. AllCalls C x)
      (λ w held. (over_more (content w) (place w) held x, omega (arith, length-append held x)))
      (λ C held left reply old new past made. passed_all x held left reply old new past.0 past.1 past.2 made))

  -- and of a `flush`
  flush_puts : Puts Flushed FlushCalls
  flush_puts = then_puts Flushed SendCalls _ (λ C held left reply old new sends made. sent held old new sends made)
      (λ e old new held left stays. (stays.same, stays.at))
      (λ C held left reply old new past made. passed_one (Flushed reply) held left old new past.0 past.1 past.2 made)

  -- the steps of all calls
  pub buffer_puts : (S : ℕ) (call : WriteCall) (C : List WriteCall) (held left : List ℕ) (old new : W) → InnerCalls S held call C left
      → Made (CallOf I) old C new → Does old held call new left
  buffer_puts S (Wrote x reply) C held left old new = write_puts S x C held left reply old new
  buffer_puts S (WroteAll x reply) C held left old new = write_all_puts S x C held left reply old new
  buffer_puts S (Flushed reply) C held left old new = flush_puts C held left reply old new

  -- A buffer that is sent line by line does the same, if a failed `write_all` of the inner writer goes no further than its bytes.
  module _ (near : GoesNoFurther I place) where
    -- the calls of a `write_all` of the inner writer go no further
    passed_near : {C : List WriteCall} (x : List ℕ) (reply : Result (Unit {0}) Error) (old new : W) → AllCalls C x reply
        → Made (CallOf I) old C new → place new ≤ place old + length x
    passed_near x (Ok u) old new (inl one) made =
        let call = subst (λ D. Made (CallOf I) old D new) one made in
        rw call.2 (omega (arith, (puts old call.0 (WroteAll x (Ok u)) call.1).1))
    passed_near x (Err e) old new (inl one) made =
        let call = subst (λ D. Made (CallOf I) old D new) one made in rw call.2 (near old call.0 x e call.1)
    passed_near x reply old new (inr loop) made =
        omega (arith, reaches_there (writes_there I content place puts old new loop.1 made (stands_held (place old) x (content old))))

    -- nor do those through a buffer
    pub all_near : (S : ℕ) (x : List ℕ) (C : List WriteCall) (held left : List ℕ) (reply : Result (Unit {0}) Error) (old new : W)
        → WriteAllCalls S x held C reply left → Made (CallOf I) old C new → place new + length left ≤ place old + length held + length x
    all_near S x C held left reply old new (first_stops room) made =
        let stays = roomed S (length x) C held left _ old new room made in omega (arith, stays.at)
    all_near S x C held left reply old new (first_goes_on {C = B} {D = D} {mid = mid} room put) made =
        let split = made_split (CallOf I) B old D new made in
        let stays = roomed S (length x) B held mid _ old split.0 room split.1 in by split.0 stays.at put split.2
      where
        by : {D : List WriteCall} {mid : List ℕ} (at : W) → place at + length mid ≡ place old + length held
            → PutCalls S x tt (λ E. AllCalls E x) mid D reply left → Made (CallOf I) at D new
            → place new + length left ≤ place old + length held + length x
        by {mid = mid} at reaches (inl put) made =
            let stays = kept at new put.1 put.3 made in omega (arith, stays.at, reaches, length-append mid x)
        by at reaches (inr past) made =
            omega (arith, passed_near x reply at new past.1.2 made, reaches, ap length past.1.0, ap length past.1.1)

    -- What a step for a `write_all` does, and that it goes no further.
    abbrev PutsNear : List ℕ → Step (Unit {0}) → Type 0
    PutsNear x step = (C : List WriteCall) (held left : List ℕ) (reply : Result (Unit {0}) Error) (old new : W) → step held C reply left
        → Made (CallOf I) old C new → Does old held (WroteAll x reply) new left
        × (place new + length left ≤ place old + length held + length x)

    -- lines are passed on
    send_lines_puts : (S : ℕ) (y : List ℕ) → PutsNear y (SendLinesCalls S y)
    send_lines_puts S y C held left reply old new (inl past) made = (
      passed_all y held left reply old new past.0 past.1 past.2 made,
      omega (arith, passed_near y reply old new past.2 made, ap length past.0, ap length past.1),
    )
    send_lines_puts S y C held left reply old new (inr (some, first_stops {e = e} fails)) made = (
      write_all_puts S y C held left (Err e) old new fails made,
      all_near S y C held left (Err e) old new fails made,
    )
    send_lines_puts S y C held left reply old new (inr (some, first_goes_on {C = B} {D = D} {mid = mid} goes sends)) made =
        let split = made_split (CallOf I) B old D new made in
        let first = write_all_puts S y B held mid (Ok tt) old split.0 goes split.1 in
        let stays = sent mid split.0 new sends split.2 in
        let put = subst (λ l. IsPutAt (place old + length held) y (over old held) l) (sym stays.same) first.0 in
        let at : place new + length left ≡ place old + length held + length y = stays.at ∙ first.1 in (by reply put at, omega (arith, at))
      where
        by : {now : List ℕ} {place' : ℕ} (r : Result (Unit {0}) Error) → IsPutAt (place old + length held) y (over old held) now
            → place' ≡ place old + length held + length y
            → PutsCall (over old held) (place old + length held) (WroteAll y r) now place'
        by (Ok u) put at = (put, at)
        by (Err e) put at = grind (arith, common_steps, take-length y)

    -- lines, and then the bytes behind them
    lines_then : (S : ℕ) (y u : List ℕ) → Puts (WroteAll (y ++ u)) (Then (SendLinesCalls S y) (WriteAllCalls S u))
    lines_then S y u C held left reply old new (first_stops {e = e} fails) made =
        let (did, close) = send_lines_puts S y C held left (Err e) old new fails made in
        let (n, m, le, put, at) = did in
        let more = front_first m y u in (
          n,
          more.0,
          more.1 n le (omega (arith, close, at)),
          subst (λ l. IsPutAt (place old + length held) l (over old held) (over new left)) more.2 put,
          at,
        )
    lines_then S y u C held left reply old new (first_goes_on {C = B} {D = D} {mid = mid} goes more) made =
        let split = made_split (CallOf I) B old D new made in
        let first = (send_lines_puts S y B held mid (Ok tt) old split.0 goes split.1).0 in
        by reply first.0 (subst (λ p. PutsCall (over split.0 mid) p (WroteAll u reply) (over new left)
        (place new + length left)) first.1 (write_all_puts S u D mid left reply split.0 new more split.2))
      where
        by : {now : List ℕ} (r : Result (Unit {0}) Error)
            → IsPutAt (place old + length held) y (over old held) now
            → PutsCall now (place old + length held + length y) (WroteAll u r) (over new left) (place new + length left)
            → Does old held (WroteAll (y ++ u) r) new left
        by {now} (Ok v) first next = (put_then _ y u _ now _ first next.0, omega (arith, next.1, length-append y u))
        by {now} (Err e) first (n, m, le, put, at) = (
          length y + n,
          length y + m,
          omega (arith, le),
          subst (λ l. IsPutAt (place old + length held) l (over old held) (over new left))
              (sym (take-append-add y u m)) (put_then _ y (take m u) _ now _ first put),
          omega (arith, at),
        )

    -- one write of the lines, and the tail is held
    lines_puts : (S : ℕ) (x : List ℕ) → Puts (Wrote x) (LinesCalls S x)
    lines_puts S x C held left reply old new (none, Ok n, is, tail) made =
        let one = subst (λ D. Made (CallOf I) old D new) is made in
        let did = puts old one.0 (Wrote (lines_of x) (Ok n)) one.1 in
        let same : take n (lines_of x) ≡ take n x =
        sym (take-append-le n (lines_of x) (unfinished_line x) one.1.bound) ∙ ap (take n) (lines_split x) in
        let long : length (take n x) ≡ n =
        ap length (sym same) ∙ length-take-le n (lines_of x) one.1.bound in
        let first = subst (λ l. IsPutAt (place old) l (content old) (content one.0)) same did.0 in
        let t = held_tail S x n in
        let q : place one.0 ≡ place old + length (take n x) = omega (arith, did.1, long) in
        let next = subst (λ p. IsPutAt p t (content one.0) (over one.0 t)) q (over_put (content one.0) (place one.0) t) in
        let both = put_then (place old) (take n x) t (content old) (content one.0) _ first next in
        let all : take n x ++ t ≡ take (n + length left) x = sym (took_tail S x n) ∙ ap (λ l. take (n + length l) x) (sym tail.0) in
        let at : place old ≡ place old + 0 = omega arith in
        subst (λ r. Does old held (Wrote x r) new left) (sym tail.1)
        (subst (λ h. Does old h (Wrote x (Ok (n + length left))) new left) (sym none)
        (subst (λ w. Does old [] (Wrote x (Ok (n + length left))) w left) (sym one.2) (
          subst (λ l. IsPutAt (place old + 0) (take (n + length left) x) (content old) (over one.0 l)) (sym tail.0)
              (subst (λ l. IsPutAt (place old + 0) l (content old) (over one.0 t)) all
              (subst (λ p. IsPutAt p (take n x ++ t) (content old) (over one.0 t)) at both)),
          omega (arith, did.1),
        )))
    lines_puts S x C held left reply old new (none, Err e, is, tail) made =
        let did = passed_one (Wrote (lines_of x) (Err e)) held left old new none tail.0 is made in
        let more = front_first did.0.0 (lines_of x) (unfinished_line x) in
        subst (λ r. Does old held (Wrote x r) new left) (sym tail.1) (
          (
            more.0,
            subst (λ l. IsPutAt (place old + length held) l (over old held) (over new left))
                (more.2 ∙ ap (take more.0) (lines_split x)) did.0.1,
          ),
          did.1,
        )

    -- a held line is sent
    line_sent : Sends SendLineCalls
    line_sent C held left reply old new (inl still) made = kept old new still.1 still.3 made
    line_sent C held left reply old new (inr sends) made = sent held old new sends.1 made

    -- the steps of all calls
    pub line_puts : (S : ℕ) (call : WriteCall) (C : List WriteCall) (held left : List ℕ) (old new : W) → LineCalls S held call C left
        → Made (CallOf I) old C new → Does old held call new left
    line_puts S (Wrote x reply) C held left old new (inl text) =
        then_puts (Wrote x) SendLineCalls (WriteCalls S x) line_sent (wrote_stops x)
        (write_puts S x) C held left reply old new text.1
    line_puts S (Wrote x reply) C held left old new (inr lines) =
        then_puts (Wrote x) SendCalls (LinesCalls S x)
        (λ C held left reply old new sends made. sent held old new sends made) (wrote_stops x)
        (lines_puts S x) C held left reply old new lines.1
    line_puts S (WroteAll x reply) C held left old new (inl text) =
        then_puts (WroteAll x) SendLineCalls (WriteAllCalls S x) line_sent (wrote_all_stops x)
        (write_all_puts S x) C held left reply old new text.1
    line_puts S (WroteAll x reply) C held left old new (inr lines) = λ made.
        subst (λ l. Does old held (WroteAll l reply) new left) (lines_split x)
        (lines_then S (lines_of x) (unfinished_line x) C held left reply old new lines.1 made)
    line_puts S (Flushed reply) C held left old new sends = flush_puts C held left reply old new sends

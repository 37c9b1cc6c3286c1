-- Over the bytes of frames, those frames are what is given.
use Rattle.no_std_io2.proofs.Words.{◌≡◌, ℕ, ◌+◌, ◌<◌, ◌≤◌, ◌^◌, List, [], ◌∷◌, ◌++◌, length, take, drop, Option, Some, None, if◌then◌else◌}
use Rattle.no_std_io2.proofs.Words.{Bool, false, Result, Ok, Err, IsSomeAnd, refl, sym, ap, subst, ◌∙◌, inl, inr, arith, append_assoc}
use Rattle.no_std_io2.proofs.Words.{append-nil, length-append, length-take, take-append_seam, drop-append_seam, take-append-le, IsFault}
use Rattle.no_std_io2.proofs.Words.{Event, fails, event_bytes, events_of, HasNoFault, first_fault, AreTaken, to_come, IsAtEnd, Reader}
use Rattle.no_std_io2.proofs.{Words.{tells, WriterState, behind_held}, GivenPieces.{first_fault-append}, MovesLemmas.{device_empty}}
use Rattle.no_std_io2.proofs.{TakesLemmas.{bytes-append, bytes-behind, HasNoFault-append, HasNoFault-events_of}, ReadsLemmas.{Reads-takes}}
use Rattle.no_std_io2.specs.{declared.io.Error.{Error}, inner.Reads.{GathersTo}, Reads.{Took}}
use Rattle.std.{proofs.{Common.{All}, lemmas.List.{append_cancel_left, Elements.{All-head}}}, specs.Int.{w32, to_le_bytes, from_le_bytes}}
use Rattle.framing.specs.{Frames.{frame, frames, told_length, IsPart}, Back.{AreToCome, GivesBack, WentOut}}
use Rattle.framing.specs.Taking.{seen_bytes, reads_from, frame_to_come, given_frame, EndsFrame, TakesFrame}
use Rattle.framing.{specs.declared.reader.FrameReader.{FrameReader}, proofs.SeenLemmas.{told_header, some_room}}

-- the first bytes of a frame say the length of its payload
told_frame : (p rest : List ℕ) → length p < 2 ^ 32 → told_length (frame p ++ rest) ≡ length p
told_frame p rest small = grind (arith, append_assoc, told_header)

-- a frame followed by other bytes is four bytes longer than its payload and these bytes
long_frame : (p rest : List ℕ) → length (frame p ++ rest) ≡ 4 + length p + length rest
long_frame p rest = omega (arith, length-append (frame p) rest, length-append (to_le_bytes w32 (length p)) p)

-- two frames that begin the same bytes are one
same_frame : (p q rest more : List ℕ) → length p < 2 ^ 32 → length q < 2 ^ 32 → frame p ++ rest ≡ frame q ++ more → (p ≡ q) × (more ≡ rest)
same_frame p q rest more small small' e =
    let size : length p ≡ length q = sym (told_frame p rest small) ∙ ap told_length e ∙ told_frame q more small' in
    let tails : p ++ rest ≡ q ++ more = sym (behind p rest) ∙ ap (drop 4) e ∙ behind q more in (
      sym (take-append_seam p rest) ∙ ap (take (length p)) tails ∙ ap (λ n. take n (q ++ more)) size ∙ take-append_seam q more,
      sym (drop-append_seam q more) ∙ ap (drop (length q)) (sym tails) ∙ ap (λ n. drop n (p ++ rest)) (sym size)
          ∙ drop-append_seam p rest,
    )
  where
    behind : (p rest : List ℕ) → drop 4 (frame p ++ rest) ≡ p ++ rest
    behind p rest = grind (arith, append_assoc, drop-append_seam)

-- the frames of no payloads alone are no bytes
no_frames : (sent : List (List ℕ)) → frames sent ≡ [] → sent ≡ []
no_frames [] e = refl
no_frames (p ∷ ps) e = absurd (omega (arith, ap length e, long_frame p (frames ps)))

-- frames have no part that the bytes end in
no_part : (seen : List ℕ) (sent : List (List ℕ)) → seen ≡ frames sent → All (λ p. length p < 2 ^ 32) sent → 0 < length seen → IsPart seen
    → ⊥
no_part seen [] e small some part = omega (arith, ap length e, some)
no_part seen (p ∷ ps) e small some (inl short) = omega (arith, ap length e, long_frame p (frames ps), short)
no_part seen (p ∷ ps) e small some (inr short) = omega (
  arith,
  ap length e,
  ap told_length e,
  long_frame p (frames ps),
  told_frame p (frames ps) (All-head (λ q. length q < 2 ^ 32) p ps small),
  short,
)

-- a length above the limit is that of the first payload
first_long : (limit : ℕ) (seen left : List ℕ) (sent : List (List ℕ)) → seen ++ left ≡ frames sent → All (λ p. length p < 2 ^ 32) sent
    → 4 ≤ length seen → limit < told_length seen → (p : List ℕ) × (more : List (List ℕ)) × (sent ≡ p ∷ more) × (limit < length p)
first_long limit seen left [] e small four above = absurd (omega (arith, ap length e, length-append seen left, four))
first_long limit seen left (p ∷ ps) e small four above =
    let front : take 4 (seen ++ left) ≡ take 4 seen = take-append-le 4 seen left four in
    let is : told_length seen ≡ length p =
    ap (from_le_bytes w32) (sym front) ∙ ap told_length e
    ∙ told_frame p (frames ps) (All-head (λ q. length q < 2 ^ 32) p ps small) in
    (p, ps, refl, omega (arith, is, above))

-- the first fault of events that have none before it
fault_first : (P E : List Event) (e : Error) → HasNoFault P → IsFault e → first_fault (P ++ fails e ∷ E) ≡ Some e
fault_first P E e none fault = first_fault-append P (fails e ∷ E) none ∙ ap (λ t. if t then first_fault E else Some e) fault

-- where it stands
fault_among : (front Q E' : List Event) (e : Error) {E P : List Event} → E ≡ P ++ E' → P ≡ Q ++ fails e ∷ []
    → front ++ E ≡ (front ++ Q) ++ fails e ∷ E'
fault_among front Q E' e are split = rw (are, split) (grind (arith, append_assoc))

-- a frame that begins the bytes of frames is the first of them
first_frame : (sent : List (List ℕ)) (room : List ℕ) (n : ℕ) (after : List ℕ) → All (λ p. length p < 2 ^ 32) sent → n < 2 ^ 32
    → frames sent ≡ frame (take n room) ++ after → (more : List (List ℕ)) × (sent ≡ take n room ∷ more) × (after ≡ frames more)
first_frame [] room n after small fits is = absurd (omega (arith, ap length is, long_frame (take n room) after))
first_frame (s ∷ ss) room n after small fits is =
    let one = same_frame s (take n room) (frames ss) after (All-head (λ q. length q < 2 ^ 32) s ss small)
    (omega (arith, length-take n room, fits)) is in
    (ss, ap (λ p. p ∷ ss) one.0, one.1)

module _ {R : Type 0} {S : ℕ} {I : Reader R} {old new : FrameReader R S} {room room' : List ℕ} where
  -- what a call takes of the events of the reader below
  pub frame_takes : {reply : Result (Option ℕ) Error} (law : TakesFrame I old room reply new room')
      → Took (tells I (reads_from old)) law.sees.given law.how (tells I (reads_from new))
  frame_takes law = Reads-takes (λ at size asks. rw asks.1 (some_room S _ _ asks.0)) law.how law.sees.reads

  -- If the frames of `sent` are told to come, a call gives the first payload, and the others are still to come.
  pub gives_back : (reply : Result (Option ℕ) Error) → TakesFrame I old room reply new room' → (sent : List (List ℕ))
      → AreToCome sent (frame_to_come I old room) → All (λ p. length p < 2 ^ 32) sent
      → GivesBack (length room) sent (frame_to_come I old room) reply room' (frame_to_come I new room')
  gives_back reply law sent told small =
      by (to_come (tells I (reads_from old))) (to_come (tells I (reads_from new))) refl took.takes.events told
    where
      seen : List ℕ
      seen = seen_bytes old room

      seen' : List ℕ
      seen' = seen_bytes new room'

      took : Took (tells I (reads_from old)) law.sees.given law.how (tells I (reads_from new))
      took = frame_takes law

      ended : (how : Result Bool Error) → law.how ≡ how → GathersTo took.taken how (tells I (reads_from new))
      ended how is = subst (λ h. GathersTo took.taken h (tells I (reads_from new))) is took.ends

      by : (E E' : Option (List Event)) → to_come (tells I (reads_from new)) ≡ E' → AreTaken E took.taken E'
          → AreToCome sent (behind_held seen E) → GivesBack (length room) sent (behind_held seen E) reply room' (behind_held seen' E')
      by None E' is are told = absurd told
      by (Some E) None is are told = absurd are
      by (Some E) (Some E') is are told = of reply whole law.ends
        where
          -- all that was to come is the frame that was given, and then what is to come
          whole : frames sent ≡ given_frame reply room' ++ event_bytes (events_of seen' ++ E')
          whole = grind (arith, append_assoc, bytes-append, bytes-behind, seen, seen', took)

          none_left : IsAtEnd (tells I (reads_from new)) → seen' ≡ event_bytes (events_of seen' ++ E')
          none_left end = rw (bytes-behind seen', (rw is at end)) (sym (append-nil seen'))

          of : (reply : Result (Option ℕ) Error) → frames sent ≡ given_frame reply room' ++ event_bytes (events_of seen' ++ E')
              → EndsFrame (length room) law.how reply seen' → GivesBack (length room) sent (Some (events_of seen ++ E)) reply room'
              (Some (events_of seen' ++ E'))
          of (Ok (Some n)) whole ends = first_frame sent room' n _ small ends.2 whole
          of (Ok None) whole ends =
              let end = ended (Ok false) ends.0 in
              let none = sym (none_left end.1) ∙ ends.1 in
              (no_frames sent (whole ∙ none), none)
          of (Err e) whole ends = (
            sym whole,
            elim ends [
              | inl (is, part) ↦
                  let (Q, split, clean, fault) = ended (Err e) is in
                  inl (ap first_fault (fault_among (events_of seen) Q E' e are split) ∙ fault_first (events_of seen ++ Q) E' e
                  (HasNoFault-append (events_of seen) Q (HasNoFault-events_of seen) clean) fault)
              | inr (inl (is, inside)) ↦
                  let end = ended (Ok false) is in
                  absurd (no_part seen' sent (none_left end.1 ∙ sym whole) small inside.0 inside.1)
              | inr (inr (is, long)) ↦
                  let first =
                  first_long (length room) seen' (event_bytes E') sent (sym (whole ∙ bytes-behind seen' E')) small long.0 long.1 in
                  inr (first.0, first.1, first.2, first.3, long.2)
            ],
          )

-- what went out are these frames
went_out : {a b : WriterState} (sent : List (List ℕ)) (bs : List ℕ) → WentOut a sent b bs → bs ≡ frames sent
went_out {a} sent bs w = append_cancel_left a.out bs (frames sent) (sym w.out ∙ device_empty w.moves w.empty w.flushed)

-- and if they are told to come, so are the frames
pub round : (a b : WriterState) (sent : List (List ℕ)) (told : Option (List Event)) → IsSomeAnd told (λ E. WentOut a sent b (event_bytes E))
    → AreToCome sent told
round a b sent None went = absurd went
round a b sent (Some E) went = went_out sent (event_bytes E) went

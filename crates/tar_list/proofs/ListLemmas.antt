-- The lines of members, one after another.
use Rattle.no_std_io2.proofs.Words.{◌≡◌, ◌⊎◌, List, ℕ, [], ◌∷◌, ◌++◌, Result, Ok, append-nil, inl, inr, WriterState, Moves, MovesFront, Err}
use Rattle.no_std_io2.proofs.{Words.{Option, Some, None, refl, ⊤, IfOk, Reader, Writer, ◌≢◌, Copied}, MovesLemmas.{Moves-then}}
use Rattle.no_std_io2.{proofs.MovesLemmas.{MovesFront-whole}, specs.{declared.io.{Error.{Error}, Take.{Take}}, Errors.{IsTextError}}}
use Rattle.std.proofs.{Common.{IsErrAnd, IfSome}, lemmas.List.{map-append, Folds.{concat-append}}}
use Rattle.tar.specs.{declared.{read.Archive.{Archive}, header.{Header.{Header}, Kind.TheVariants.{Directory}}}, Members.{NextHeaderLaw}}
use Rattle.tar.{specs.{Members.{FindHeaderLaw}, Archives.{member_of, with_member, left_of_member}}, proofs.MemberLemmas.{Skipping}}
use Rattle.tar.proofs.MemberLemmas.{comes_to}
use Rattle.tar_list.specs.{declared.CopyFault.{CopyFault}, Listing.{member_line, member_lines, PrintsMember, ListEnds, Lists, MemberEnds}}
use Rattle.tar_list.specs.Listing.{CopiesMember, BytesEnd}

-- a text was printed, and no formatter failed
pub printed_whole : {a b : WriterState} (x : List ℕ) {r : Result (Unit {0}) Error} {u : Unit {0}} → r ≡ Ok u
    → MovesFront a x r b ⊎ IsErrAnd r IsTextError → MovesFront a x (Ok tt) b
printed_whole x is (inl printed) = rw is at printed
printed_whole x is (inr failed) = absurd (rw is at failed)

-- one line more
lines_more : (headers : List Header) (h : Header) → member_lines (headers ++ h ∷ []) ≡ member_lines headers ++ member_line h
lines_more headers h = rw (map-append, concat-append, append-nil)

-- it was printed whole
pub prints_more : {a b c : WriterState} (headers : List Header) (h : Header) {r : Result (Unit {0}) Error} {u : Unit {0}} → r ≡ Ok u
    → Moves a (member_lines headers) [] b → PrintsMember h b r c → Moves a (member_lines (headers ++ h ∷ [])) [] c
prints_more headers h is so_far line =
    rw (lines_more headers h) (Moves-then so_far (MovesFront-whole (member_line h) tt (printed_whole (member_line h) is line)))

-- members were passed over, and the next call ended the list
pub lists : {X : Type 0} {R : Reader X} {old mid new : Archive X} {was told : WriterState} {last : Result (Option Header) Error}
    {reply : Result (Unit {0}) Error} (before : Skipping R old mid) → NextHeaderLaw R mid last new
    → ListEnds (member_lines before.headers) last was reply told → Lists R old was reply new told
lists {last = last} before law ends =
    record { headers = before.headers; last = last; comes = comes_to before refl law (trivial last); prints = ends }
  where
    trivial : (r : Result (Option Header) Error) → IfOk r (λ found. IfSome found (λ h. ⊤))
    trivial (Ok None) = tt
    trivial (Ok (Some h)) = tt
    trivial (Err e) = tt

-- a `find` returned this, and then the copy ended like this
pub copy_ended : {X W : Type 0} {R : Reader X} {K : Reader (Take X)} {I : Writer W} {name : List ℕ} {old mid new : Archive X} {was now : W}
    {reply : Result (Unit {0}) CopyFault} (found : Result (Option Header) Error) → FindHeaderLaw R old name found mid
    → MemberEnds K I found mid was reply new now → CopiesMember R K I name old was reply new now
copy_ended found finds ends = record { found = found; mid = _; finds = finds; ends = ends }

-- a file was found, its bytes were copied, and then the copy ended like this
pub bytes_copied : {X W : Type 0} {R : Reader X} {K : Reader (Take X)} {I : Writer W} {name : List ℕ} {old mid new : Archive X}
    {was out now : W} {reply : Result (Unit {0}) CopyFault} {h : Header} {copied : Result ℕ Error}
    → FindHeaderLaw R old name (Ok (Some h)) mid → h.kind ≢ Directory → Copied K I 65536 (member_of mid) was copied (member_of new) out
    → new ≡ with_member mid (member_of new) → BytesEnd I copied (left_of_member new) out reply now
    → CopiesMember R K I name old was reply new now
bytes_copied finds other copies rest ends =
    copy_ended (Ok (Some _)) finds (inr (other, record { copied = _; out = _; copies = copies; rest = rest; ends = ends }))

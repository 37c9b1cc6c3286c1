-- What an `ar` archive is, and what its calls take of the reader below.
use Rattle.std.specs.Prelude.{◌≡◌, ◌⊎◌, ℕ, ◌+◌, ◌-◌, ◌*◌, ◌%◌, ◌<◌, ◌≤◌, ◌==◌, ◌&&◌, nat_lt, if◌then◌else◌, List, [], ◌∷◌, ◌++◌, length}
use Rattle.std.specs.Prelude.{take, drop, codes, true, false, Bool, Option, Some, None, Result, Ok, Err}
use Rattle.no_std_io2.specs.{Errors.{IsUnexpectedEnd, SaysError}, Takes.{Reader, tells}, Reads.{Took}, declared.io.Error.{Error}}
use Rattle.no_std_io2.specs.{declared.io.ErrorKind.TheVariants.{InvalidData, UnexpectedEof}, Events.{Event, event_bytes}}
use Rattle.no_std_io2.specs.inner.Take.{limit_inner, limit_left, LimitTakes}
use Rattle.examples.specs.declared.ar.{Archive.{Archive}, Header.{Header}}

-- the reader below
abbrev pub archive_inner : {R : Type 0} → Archive R → R
archive_inner a = limit_inner a.content

-- how many bytes of the current content are still to come
abbrev pub content_left : {R : Type 0} → Archive R → ℕ
content_left a = limit_left a.content

-- what was read in front of the next content: the newline behind the last one, or a byte in its place, and then the header
abbrev pub head_read : {R : Type 0} → Archive R → List ℕ
head_read a = take a.filled a.head

-- the number of these digits, behind those of n, up to the end or a space; none if another byte comes first
abbrev pub decimal_from : ℕ → List ℕ → Option ℕ
decimal_from n [] = Some n
decimal_from n (b ∷ bs) = if nat_lt 47 b && nat_lt b 58 then decimal_from (n * 10 + (b - 48)) bs else if b == 32 then Some n else None

-- the number of a field
abbrev pub decimal_field : List ℕ → Option ℕ
decimal_field bs = decimal_from 0 bs

-- The header behind the first byte is one, and this is what it says.
pub record Says (head : List ℕ) (h : Header) : Type 0 where
  pub name : h.name ≡ take 16 (drop 1 head)
  pub size : decimal_field (take 10 (drop 49 head)) ≡ Some h.size
  pub end : take 2 (drop 59 head) ≡ 96 ∷ 10 ∷ []

-- The header has no end, or its size is no number.
abbrev pub Refuses : List ℕ → Error → Type 0
Refuses head e = SaysError InvalidData (codes "a header has no end") e
    ⊎ ((decimal_field (take 10 (drop 49 head)) ≡ None) × SaysError InvalidData (codes "the size of an entry is no number") e)

-- an archive over a reader, of which nothing was read
abbrev pub Begins : {R : Type 0} → R → Archive R → Type 0
Begins reader new = (archive_inner new ≡ reader) × (content_left new ≡ 0) × (length (head_read new) ≡ 1)

-- The rest of a content was skipped, and then bytes of the next header were read. No byte is lost: what was not skipped is still left, and
-- what was read of the header stands behind what was read of it before.
pub record ComesOn {X : Type 0} (R : Reader X) (old : Archive X) (how : Result Bool Error) (left : ℕ) (head : List ℕ) (new : X)
    : Type 0 where
  pub skipped : List ℕ
  pub more : List ℕ
  pub took : Took (tells R (archive_inner old)) (skipped ++ more) how (tells R new)
  pub content : length skipped + left ≡ content_left old
  pub order : 0 < left → more ≡ []
  pub header : head ≡ head_read old ++ more

-- how that ended: the header is whole, or the end came first; or a fault, or the end inside the content
abbrev pub Reached : Result (Unit {0}) Error → Result Bool Error → ℕ → List ℕ → Type 0
Reached (Ok u) how left head = (left ≡ 0) × (((length head ≡ 61) × (how ≡ Ok true)) ⊎ ((length head < 61) × (how ≡ Ok false)))
Reached (Err e) how left head = (how ≡ Err e) ⊎ ((how ≡ Ok false) × (0 < left) × IsUnexpectedEnd e)

-- the rest of a content was skipped, and the rest of the next header read
abbrev pub ReachesHeader : {X : Type 0} → Reader X → Archive X → Result (Unit {0}) Error → Archive X → Type 0
ReachesHeader R old reply new = (how : Result Bool Error) × ComesOn R old how (content_left new) (head_read new) (archive_inner new)
    × Reached reply how (content_left new) (head_read new)

-- the archive has this content left, and this of the next header
abbrev Keeps : {X : Type 0} → ℕ → List ℕ → Archive X → Type 0
Keeps left head new = (content_left new ≡ left) × (head_read new ≡ head)

-- an error: what was reached stays, and is the reader's fault, an end inside a content or a header, or a header that is none
abbrev Stops : Error → Result Bool Error → ℕ → List ℕ → Type 0
Stops e how left head = Reached (Err e) how left head
    ⊎ (((how ≡ Ok false) × (left ≡ 0) × (length head < 61) × SaysError UnexpectedEof (codes "the archive ends inside a header") e)
    ⊎ ((how ≡ Ok true) × (left ≡ 0) × (length head ≡ 61) × Refuses head e))

-- What a call came to. If to a header, it stands right behind the content that was left, and its own content comes next.
abbrev pub HeaderComes : {X : Type 0} → Result (Option Header) Error → Result Bool Error → ℕ → List ℕ → Archive X → Type 0
HeaderComes (Ok (Some h)) how left head new = (how ≡ Ok true) × (left ≡ 0) × (length head ≡ 61) × Says head h
    × (content_left new ≡ h.size) × (length (head_read new) ≡ 1 - h.size % 2)
HeaderComes (Ok None) how left head new = (how ≡ Ok false) × (left ≡ 0) × (length head ≤ 1) × Keeps left head new
HeaderComes (Err e) how left head new = Stops e how left head × Keeps left head new

-- `next_header()`
abbrev pub NextHeader : {X : Type 0} → Reader X → Archive X → Result (Option Header) Error → Archive X → Type 0
NextHeader R old result new = (how : Result Bool Error) × (left : ℕ) × (head : List ℕ)
    × ComesOn R old how left head (archive_inner new) × HeaderComes result how left head new

-- Bytes of the content were read, and put behind those of a buffer. What is left of it is still to come, and then the next header.
abbrev pub ReadsContent : {X : Type 0} → Reader X → Archive X → List ℕ → Archive X → List ℕ → Type 0
ReadsContent R old buf new buf' = (P : List Event) × (buf' ≡ buf ++ event_bytes P) × LimitTakes R old.content P new.content
    × (head_read new ≡ head_read old)

-- the next header was read, and then these bytes of its content
abbrev pub ReadsNext : {X : Type 0} → Reader X → Archive X → List ℕ → Archive X → Type 0
ReadsNext R old x new = (h : Header) × (mid : Archive _) × NextHeader R old (Ok (Some h)) mid × ReadsContent R mid [] new x

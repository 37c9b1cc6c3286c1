-- The words of the promises.
use Rattle.std.specs.Prelude.{◌≡◌, ◌+◌, ℕ, List, [], ◌∷◌, ◌++◌, length, ⊤, Ok, Err, None, Some}
use Rattle.no_std_io2.specs.declared.io.{Error.{Error}, ErrorKind.TheVariants.{WriteZero}, Take.{Take}, Cursor.{Cursor}, Chain.{Chain}}
use Rattle.no_std_io2.specs.declared.buffered.{buf_writer.BufWriter.{BufWriter}, line_writer.LineWriter.{LineWriter}}
use Rattle.no_std_io2.specs.{declared.buffered.buf_reader.BufReader.{BufReader}, Errors.{error_kind}, Moves.{WriterState}}
use Rattle.no_std_io2.specs.{Calls.{WriteCall, Wrote, WroteAll, Flushed}, BufWriter.{writer_inner, writer_buffer}}
use Rattle.no_std_io2.specs.inner.{BufWriter.{with_buffer}, BufReader.{reader_told}, Cursor.{cursor_left}, Take.{limit_inner, limit_events}}
use Rattle.no_std_io2.specs.{inner.Chain.{chain_first, chain_second, chain_events}, BufReader.{reader_held, reader_inner}}
use Rattle.no_std_io2.specs.{Cursor.{cursor_inner, cursor_position}, Events.{events_of}, Takes.{ReaderState, store_at}}
use Rattle.no_std_io2.specs.LineWriter.{line_inner, line_buffer}

-- all accepted bytes, in order: those that are out, then those that are held
abbrev pub bytes_in : WriterState → List ℕ
bytes_in t = t.out ++ t.held

-- what a tower of two buffers tells: what its device tells, and as held also the bytes of each buffer
abbrev pub in_tower : {W : Type 0} {S T : ℕ} → (W → WriterState) → LineWriter (BufWriter W S) T → WriterState
in_tower told w = with_buffer (with_buffer (told (writer_inner (line_inner w))) (writer_buffer (line_inner w))) (line_buffer w)

-- what a `LineWriter` over a device tells: what its device tells, and as held also its buffer
abbrev pub in_lines : {W : Type 0} {S : ℕ} → (W → WriterState) → LineWriter W S → WriterState
in_lines told w = with_buffer (told (line_inner w)) (line_buffer w)

-- what a `Take` of a reader that tells this tells: the events up to and including the byte at the limit
abbrev pub in_take : {R : Type 0} → (R → ReaderState) → Take R → ReaderState
in_take told t = record { events = limit_events told t; store = None; turns = (told (limit_inner t)).turns }

-- what a `Chain` of readers that tell this tells: the events of the first, and then those of the second
abbrev pub in_chain : {R U : Type 0} → (R → ReaderState) → (U → ReaderState) → Chain R U → ReaderState
in_chain first second c = record {
  events = chain_events first second c;
  store = None;
  turns = (first (chain_first c)).turns + (second (chain_second c)).turns;
}

-- what a `BufReader` of a reader that tells this tells: the held bytes, and then those events
abbrev pub in_reader : {R : Type 0} {S : ℕ} → (R → ReaderState) → BufReader R S → ReaderState
in_reader {S = room} told r = reader_told room (reader_held r) (told (reader_inner r))

-- what a cursor tells: its bytes from the position on, and its content with the position
abbrev pub in_cursor : {T : Type 0} → (T → List ℕ) → Cursor T → ReaderState
in_cursor slice c = record {
  events = Some (events_of (cursor_left slice c));
  store = store_at (slice (cursor_inner c)) (cursor_position c);
  turns = length (cursor_left slice c);
}

-- none of these calls is a flush
abbrev pub HasNoFlush : List WriteCall → Type 0
HasNoFlush [] = ⊤
HasNoFlush (Wrote x reply ∷ C) = HasNoFlush C
HasNoFlush (WroteAll x reply ∷ C) = HasNoFlush C
HasNoFlush (Flushed reply ∷ C) = ⊥

-- the call failed with this error, or it took none of its bytes, which fails with `WriteZero`
abbrev pub FailedWith : WriteCall → Error → Type 0
FailedWith (Wrote x (Ok n)) e = (n ≡ 0) × (error_kind e ≡ WriteZero)
FailedWith (Wrote x (Err f)) e = f ≡ e
FailedWith (WroteAll x (Ok u)) e = ⊥
FailedWith (WroteAll x (Err f)) e = f ≡ e
FailedWith (Flushed (Ok u)) e = ⊥
FailedWith (Flushed (Err f)) e = f ≡ e

-- the last of these calls failed with this error, so no call was made after it
abbrev pub EndsIn : List WriteCall → Error → Type 0
EndsIn [] e = ⊥
EndsIn (call ∷ []) e = FailedWith call e
EndsIn (call ∷ next ∷ C) e = EndsIn (next ∷ C) e

-- the last of these calls is a flush that succeeded
abbrev pub EndsInFlush : List WriteCall → Type 0
EndsInFlush [] = ⊥
EndsInFlush (call ∷ []) = call ≡ Flushed (Ok tt)
EndsInFlush (call ∷ next ∷ C) = EndsInFlush (next ∷ C)

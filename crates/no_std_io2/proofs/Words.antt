-- The words that most proofs of buffers and of clients name, passed on from one place. Declares nothing.
pub use Rattle.std.proofs.Common.{Bool, Err, IfErr, IfOk, IsOk, IsSomeAnd, List, None, Ok, OnOk, Option, Result, Some, Vec, [], ap}
pub use Rattle.std.proofs.Common.{append-nil, append_assoc, ap₂, arith, drop, false, get_or, if◌then◌else◌, inl, inr, le_refl, length}
pub use Rattle.std.proofs.Common.{length-append, length-drop, length-take, length-take-le, map, min, nat_eq, nat_lt, negsuc, pos, refl}
pub use Rattle.std.proofs.Common.{rules, subst, suc, sym, take, take-append-drop, true, true≢false, vec_len, zero, ℕ, ℤ, ⊎_elim, ◌%◌, ◌*◌}
pub use Rattle.std.proofs.Common.{◌++◌, ◌+◌, ◌-◌, ◌/◌, ◌<◌, ◌==◌, ◌^◌, ◌∙◌, ◌∷◌, ◌≡◌, ◌≢◌, ◌≤◌, ◌⊎◌}
pub use Rattle.std.proofs.Math.Seq.{drop-append_seam, take-append_seam}
pub use Rattle.std.proofs.lemmas.Bool.{cases_lt}
pub use Rattle.std.proofs.lemmas.Bool.Decides.{nat_tests}
pub use Rattle.std.proofs.lemmas.Grind.{common_steps}
pub use Rattle.std.proofs.lemmas.Int.{to_z-of_z}
pub use Rattle.std.proofs.lemmas.List.{nil_from_length, take-append-le, take-take, take_more}
pub use Rattle.std.proofs.lemmas.Result.{err_from_is_err_and}
pub use Rattle.no_std_io2_base.proofs.QuestionMark.{returned_err}
pub use Rattle.std.specs.Cmp.Lexicographic.{same_text}
pub use Rattle.std.specs.Int.{w64}
pub use Rattle.std.specs.Io.BufRead.{ends_with_byte, strip_last}
pub use Rattle.std.specs.List.{concat, sum}
pub use Rattle.std.specs.Prelude.{is_some, ⊤}
pub use Rattle.no_std_io2.specs.inner.BufReader.{AsksExact, FillsBelow, PassesOn, ReadsBelow, lent_held, lent_read, of_held, was_filled}
pub use Rattle.no_std_io2.specs.inner.BufReader.{went_past}
pub use Rattle.no_std_io2.specs.inner.Buffer.{behind_held, step_back, store_before, store_if, IsCutOn, IsSuffix}
pub use Rattle.no_std_io2.specs.inner.BufWriter.{BufferMay, Buffered, FlushCalls, InnerCalls, SingleCall, SendCalls, Step, Stepped}
pub use Rattle.no_std_io2.specs.inner.BufWriter.{TakesStep, Then, RoomCalls, WriteAllCalls, WriteCalls, buffer_after, first_goes_on}
pub use Rattle.no_std_io2.specs.BufReader.{reader_behind, reader_held, reader_inner}
pub use Rattle.no_std_io2.specs.inner.BufWriter.{sender_buffer, sender_inner, first_stops, with_buffer, writing_calls, LevelCalls}
pub use Rattle.no_std_io2.specs.BufWriter.{writer_buffer, writer_inner, writer_told}
pub use Rattle.no_std_io2.specs.{inner.LineWriter.{LineWriteAllCalls, LineWriteCalls, SendLinesCalls}, LineWriter.{line_buffer, line_inner}}
pub use Rattle.no_std_io2.specs.Copy.{Copied}
pub use Rattle.no_std_io2_base.specs.Errors.{IsFault, IsInterruption, IsOutOfMemory, error_kind}
pub use Rattle.no_std_io2_base.specs.Events.{Event, HasNoFault, byte, event_bytes, events_of, fails, Store}
pub use Rattle.no_std_io2_base.specs.inner.Events.{bytes_to_fault, first_fault}
pub use Rattle.no_std_io2_base.specs.inner.Lines.{IsLineState, lines_len, lines_of, unfinished_line}
pub use Rattle.no_std_io2_base.specs.{Meter.{IsMeter, FillsRoom, IsReadMeter}, inner.Charges.{charges, calls_for}, Pieces.{newline}}
pub use Rattle.no_std_io2_base.specs.{inner.Iterators.{split_delim, split_reader}}
pub use Rattle.no_std_io2_base.specs.inner.Read.{ExactCalls, Gathers, GathersUntil, GaveLaw, IsRest, and_again, and_gave, bytes_given}
pub use Rattle.no_std_io2_base.specs.Calls.{Consumed, Filled, Gave, GaveAll, ReadCall, ByCalls, Flushed, Made, WriteCall, Wrote, WroteAll}
pub use Rattle.no_std_io2_base.specs.{inner.Read.{no_read}, Read.{ReadCallLaw, ReadLaw}}
pub use Rattle.no_std_io2_base.specs.Takes.{Reader, answered, tells, bytes_left, IsAtEnd, KeepsContent, Takes, ReaderState, to_come}
pub use Rattle.no_std_io2_base.specs.inner.Takes.{AreTaken}
pub use Rattle.no_std_io2_base.specs.inner.Write.{AllCalls, Writes, write_again, write_fault, no_write, write_stuck, write_took}
pub use Rattle.no_std_io2_base.specs.{Moves.{IsFront, Moves, MovesFront, WriterState, call_mishap, told_out}, inner.Writers.{CallOf}}
pub use Rattle.no_std_io2_base.specs.Writers.{TakesAll, Writer}
pub use Rattle.no_std_io2_base.specs.Reads.{Fetches}

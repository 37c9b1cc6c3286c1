-- What an encoder and a decoder hold, and how a decoder reads its text.
use Rattle.std.specs.Prelude.{◌≡◌, ℕ, Bool, List, ◌++◌, length, slice_range, take, Result}
use Rattle.no_std_io2.specs.{declared.io.Error.{Error}, Takes.{Reader}, inner.{Buffer.{AsksOn, HasTo}, Reads.{Reads}}}
use Rattle.base64_stream.specs.declared.{group.Group.{Group}, text.Text.{Text}, waiting.Waiting.{Waiting}}

-- the bytes of a group that is not whole yet
abbrev pub group_items : {S : ℕ} → Group S → List ℕ
group_items g = take g.len g.bytes

-- the characters that were read and not decoded yet
abbrev pub text_items : Text → List ℕ
text_items t = slice_range t.bytes t.start t.end

-- the decoded bytes that wait
abbrev pub waiting_items : Waiting → List ℕ
waiting_items w = slice_range w.bytes w.start w.end

-- Reads went on until the text had four characters, or up to the end or a fault: each into all the room behind the text.
pub record GathersText {R : Type 0} (I : Reader R) (from : R) (text : List ℕ) (how : Result Bool Error) (to : R) (text' : List ℕ)
    : Type 0 where
  pub given : List ℕ
  pub reads : Reads I (AsksOn 256 4 text) from given how to
  pub holds : text' ≡ text ++ given
  pub enough : HasTo 4 how (length text')

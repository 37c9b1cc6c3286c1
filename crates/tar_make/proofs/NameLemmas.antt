-- What the header of a member says of it.
use Rattle.no_std_io2.{proofs.Words.{◌≡◌, ℕ, List, Result, Ok, Err, IfOk}, specs.declared.io.Error.{Error}}
use Rattle.std.specs.{Prelude.{bit_and}, Fs.{metadata_mode, file_type, IsSymlink}}
use Rattle.cli.specs.declared.reason.Reason.{Reason}
use Rattle.tar.specs.{Says.{IsHeaderOf}, declared.{header.Kind.{Kind, TheVariants.{Symlink}}, header_block.HeaderBlock.{HeaderBlock}}}
use Rattle.tar.specs.declared.header_block.Metadata.{Metadata}
use Rattle.tar_make.specs.Adding.{IsHeaderFor}
use Rattle.std.specs.declared.fs.attrs.Metadata as Found

-- a header that was made of these bytes is one for the name that they are
pub header_for : {name bytes : List ℕ} (found : Found.Metadata) (result : Result HeaderBlock Reason)
    (made : Result HeaderBlock Error) (kind : Kind) (target : List ℕ) (size : ℕ) (m : Metadata) → bytes ≡ name
    → IfOk result (λ h. made ≡ Ok h) → IfOk made (IsHeaderOf kind bytes target size m)
    → m.mode ≡ bit_and (metadata_mode found) 0o7777 → (IsSymlink (file_type found) → kind ≡ Symlink) → IfOk result (IsHeaderFor name found)
header_for {bytes = bytes} found (Ok h) made kind target size m same is said mode link =
    let named : IsHeaderFor bytes found h = (kind, target, size, m, rw is at said, mode, link) in
    rw same at named
header_for found (Err why) made kind target size m same is said mode link = tt

-- What a `Disk` has, and where it stands.
use Rattle.std.specs.Prelude.{ℕ, List}
use Rattle.record_log.specs.declared.disk.Disk.{Disk}

-- its content
abbrev pub disk_content : Disk → List ℕ
disk_content d = d.content.items

-- the place of the next write
abbrev pub disk_place : Disk → ℕ
disk_place d = d.place

use Rattle.std.proofs.Common.{◌≡◌}
use Rattle.no_std_io2_base.proofs.traits.write.Write.write_fmt.Given as goal

abbrev pub ghosts-print_to : goal.ghosts-print_to
ghosts-print_to g a = record { at = λ w name. (w ≡ a.lent.inner.now) × (name ≡ a.lent.inner.ghost_name) }

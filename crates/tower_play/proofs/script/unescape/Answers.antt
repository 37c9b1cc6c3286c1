-- The prover does not find which bytes are meant so far (`goes_by_itself`).
use Rattle.no_std_io2.proofs.Words.{◌∙◌, refl, [], ◌∷◌, arith, rules, common_steps}
use Rattle.tower_play.proofs.Escapes.{none_yet, ends_escape, begins_escape, goes_by_itself}
use Rattle.tower_play.proofs.script.unescape.Goals.{then-is_escaped+in-110, then-is_escaped+in-92, else-is_escaped+then-b-eq92}
use Rattle.tower_play.proofs.script.unescape.Goals.{else-is_escaped+else-b-eq92}
use Rattle.tower_play.proofs.script.unescape.Goals as goal

pub bytes-init : goal.bytes-init
bytes-init c = record { room = refl; short = omega arith; grows = omega arith; so = none_yet c.args.bytes.now.items c.args.text.now }

pub bytes-preserved : goal.bytes-preserved
bytes-preserved c =
    let i = c.bytes.b-index in
    let in' = c.bytes-test.true in
    let so = c.bytes.invariant.so in
    record {
      room = grind (arith, common_steps);
      short = grind (arith, common_steps);
      grows = grind (arith, common_steps);
      so =
          elim c.if-is_escaped.branch [
            | then-is_escaped+in-110 w ↦
                ends_escape i in' 110 (10 ∷ []) (search rules) w.if-is_escaped.true w.is_escaped-is refl (search rules) so
            | then-is_escaped+in-92 w ↦
                ends_escape i in' 92 (92 ∷ []) (search rules) w.if-is_escaped.true w.is_escaped-is refl (search rules) so
            | else-is_escaped+then-b-eq92 w ↦
                begins_escape i in' (search rules) w.if-is_escaped.false w.is_escaped-is (search rules) so
            | else-is_escaped+else-b-eq92 w ↦
                goes_by_itself i in' (search rules) w.if-is_escaped.false
                (w.is_escaped-is ∙ w.if-is_escaped.false) (search rules) so
          ];
    }

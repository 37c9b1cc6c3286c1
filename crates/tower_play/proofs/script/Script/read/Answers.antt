-- The prover does not find the lines that were read so far, nor which is the first bad one.
use Rattle.no_std_io2.proofs.{Words.{◌≡◌, ◌∙◌, ap, subst, refl, [], Some, Ok, arith, err_from_is_err_and}, TakesLemmas.{reader}}
use Rattle.std.proofs.Common.{not, vec_items}
use Rattle.tower_play.{specs.Reading.{Adds, IsBadLine}, proofs.ScriptLemmas.{is_none, read_after, read_all, read_bad, read_first}}
use Rattle.tower_play.proofs.{ScriptLemmas.{read_good, read_stops}, script.Script.read.Goals.{then-is_none+in_ok-add_line+then-not-branch}}
use Rattle.tower_play.proofs.script.Script.read.Goals.{else-is_none, else-is_none-via-then-is_none+in_ok-add_line+else-not-branch}
use Rattle.tower_play.proofs.script.Script.read.Goals.{else-is_none-via-else-is_none}
use Rattle.tower_play.proofs.script.Script.read.Goals as goal

pub lines-init : goal.lines-init
lines-init g c =
    let e = c.into_iter-line-iterator.ensures.into_iter_gives in
    record {
      number = tt;
      read = rw e (record {
        items = [];
        made = refl;
        lines = [];
        are = refl;
        start = _;
        fresh = record { acts = c.new.ensures.items; steps = c.new-2.ensures.items; texts = c.new-3.ensures.items };
        adds = λ _. refl;
        count = refl;
        first = tt;
      });
    }

pub lines-preserved : goal.lines-preserved
lines-preserved g c =
    let item = c.in_ok-line.line in
    let so = c.lines.invariant.read in
    let is : c.next.result ≡ Some (Ok item) = c.in-Some.is ∙ ap Some c.in_ok-line.was in
    let gave = rw is at c.next.ensures.steps in
    let count = c.saturating_add-number.ensures in
    elim c.if-is_none.branch [
      | then-is_none+in_ok-add_line+then-not-branch w ↦
          let none = is_none c.lines.bad (c.is_none.ensures ∙ ap not w.if-is_none.true) in
          let line = subst (λ l. IsBadLine l c.lines.script) w.deref.ensures.value (w.in_ok-add_line.ensures.bad w.if-not-branch.true) in
          record { number = rw w.bad-is (omega (arith, count)); read = read_bad _ item so gave count none w.bad-is line }
      | else-is_none w ↦ elim w.else-is_none.branch [
        | else-is_none-via-then-is_none+in_ok-add_line+else-not-branch w' ↦
            let none = is_none c.lines.bad (c.is_none.ensures ∙ ap not w'.if-is_none.true) in
            let adds = w'.in_ok-add_line.ensures.adds w'.if-not-branch.false in
            let line = subst (λ l. Adds l c.lines.script w'.add_line.new.self) w'.deref.ensures.value adds in
            record {
              number = rw w.bad-is c.lines.invariant.number;
              read = rw (w.script-is ∙ w'.script-is) (read_good _ item so gave count none w.bad-is line);
            }
        | else-is_none-via-else-is_none w' ↦
            record {
              number = rw w.bad-is c.lines.invariant.number;
              read = read_after _ item so gave count (c.is_none.ensures ∙ ap not w'.if-is_none.false) w.bad-is;
            }
      ]
    ]

pub returns-in-None-bad-clause-read : goal.returns-in-None-bad-clause-read
returns-in-None-bad-clause-read g c = λ fresh.
    read_all (reader g.R.Stored g.R.Read) vec_items c.next.new.self c.lines.invariant.read fresh
    (rw c.in-None.is at c.next.ensures.steps) c.in-None-bad.is

pub returns-in-Some-bad-clause-first : goal.returns-in-Some-bad-clause-first
returns-in-Some-bad-clause-first g c = λ fresh.
    read_first (reader g.R.Stored g.R.Read) vec_items c.next.new.self c.lines.invariant.read fresh
    (rw c.in-None.is at c.next.ensures.steps) c.in-Some-bad.is

pub returns-in_err-line-clause-stops : goal.returns-in_err-line-clause-stops
returns-in_err-line-clause-stops g c = λ fresh.
    let p = err_from_is_err_and c.from_residual.result c.from_residual.ensures.1 in
    rw (p.1, p.2)
    (read_stops (reader g.R.Stored g.R.Read) vec_items c.next.new.self c.lines.invariant.read fresh
    (rw (c.in-Some.is ∙ ap Some c.in_err-line.was) at c.next.ensures.steps))

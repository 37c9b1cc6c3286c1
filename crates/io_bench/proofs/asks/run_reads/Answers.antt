-- The prover does not find that one more ask joins those before it, nor the bound over all of them.
use Rattle.no_std_io2.proofs.Words.{ap, ◌+◌, common_steps, Bool, Ok, Err, if◌then◌else◌, ◌≡◌, get_or, arith, refl, ◌∙◌, take_more}
use Rattle.no_std_io2.proofs.{TakesLemmas.{reader}, BufferedReads.{buf_reader}}
use Rattle.std.proofs.Common.{take_all}
use Rattle.io_bench.specs.{declared.asks.Ask.TheVariants.{Read}, Asks.{no_ask, next_ask}}
use Rattle.io_bench.proofs.AskSteps.{fits_at, came_takes, came_went, few_reads}
use mir.Val.{bool_byte}
use Rattle.io_bench.proofs.asks.run_reads.Goals as goal

byte_is : (b : Bool) → bool_byte b ≡ (if b then 1 else 0)
byte_is b = grind arith

pub make_ask-requires : goal.make_ask-requires
make_ask-requires g c = grind (arith, common_steps, get_or, fits_at)

pub asks-init : goal.asks-init
asks-init g c = record { long = refl; at_end = omega arith; failed = omega arith; came = no_ask }

pub asks-preserved : goal.asks-preserved
asks-preserved g c =
    let before = c.asks.invariant in
    let call = c.in-Ok.ensures in
    let old = c.asks.totals in
    let ends : c.from.result ≡ (if c.in-Ok.is_end then 1 else 0) = c.from.ensures ∙ byte_is c.in-Ok.is_end in
    let same : old.failed ≡ old.failed + 0 = omega arith in
    record {
      long = omega (arith, call.len, before.long);
      at_end = grind (arith, before.at_end, ends);
      failed = omega (arith, before.failed);
      came = rw (take_more c.args.asks.now c.asks.ask-index (Read 0) (omega arith))
          (next_ask _ (Ok c.in-Ok.is_end) before.came call.answered (ap (λ n. old.at_end + n) ends) same);
    }

pub asks-preserved-in_default : goal.asks-preserved-in_default
asks-preserved-in_default g c =
    let before = c.asks.invariant in
    let call = c.in_default.ensures in
    let same : c.asks.totals.at_end ≡ c.asks.totals.at_end + 0 = omega arith in
    record {
      long = omega (arith, call.len, before.long);
      at_end = omega (arith, before.at_end);
      failed = omega (arith, before.failed);
      came = rw (take_more c.args.asks.now c.asks.ask-index (Read 0) (omega arith))
          (next_ask _ (Err c.in_default.field-0) before.came call.answered same refl);
    }

pub returns : goal.returns
returns g c =
    let R = reader g.R.Stored g.R.Read in
    let all = rw (take_all c.asks.ask-index c.args.asks.now (omega arith)) at c.asks.invariant.came in
    let start = c.args.r.now in
    record {
      came_to = all;
      takes = came_takes (buf_reader R) all;
      fills = λ fills. (came_went R start fills all).2.fills;
      steps = λ fills. let went = came_went R start fills all in (went.0, went.1);
      bound = λ fills cost meter. few_reads R start _ c.asks.r (came_went R start fills all).2 cost meter;
    }

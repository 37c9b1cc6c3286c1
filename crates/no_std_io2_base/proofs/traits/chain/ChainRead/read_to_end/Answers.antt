-- Each exit, by what both readers gave: the search does not join two lists of calls.
use Rattle.std.proofs.{Common.{◌-◌, Ok, Err, refl, arith}, lemmas.Result.{err_from_is_err_and}}
use Rattle.no_std_io2_base.proofs.{ToEndLemmas.{end_first, end_second, end_both}, MovesLemmas.{after_ok}}
use Rattle.no_std_io2_base.proofs.traits.chain.ChainRead.read_to_end.Goals as goal

pub returns-then-self : goal.returns-then-self
returns-then-self g c = record {
  law = end_second _ _ c.read_to_end.result c.if-self.true refl c.read_to_end.ensures.law;
  ended = after_ok c.read_to_end.result c.if-self.true;
}

pub returns-in_err-read_to_end : goal.returns-in_err-read_to_end
returns-in_err-read_to_end g c =
    let p = err_from_is_err_and c.from_residual.result c.from_residual.ensures.1 in
    rw (p.1, p.2) (record { law = end_first _ _ c.if-self.false refl c.in_err-read_to_end.ensures.law; ended = tt })

pub returns-in_err-rest_to_end : goal.returns-in_err-rest_to_end
returns-in_err-rest_to_end g c =
    let p = err_from_is_err_and c.from_residual-in_err-rest_to_end.result c.from_residual-in_err-rest_to_end.ensures.1 in
    rw (p.1, p.2) (record {
      law = end_both _ _ (Err _) 0 c.if-self.false refl c.in_ok-read_to_end.ensures.law c.in_err-rest_to_end.ensures.law tt;
      ended = tt;
    })

pub returns : goal.returns
returns g c = record {
  law = end_both _ _ (Ok _)
      (c.len.result - c.len-start.result) c.if-self.false refl c.in_ok-read_to_end.ensures.law c.in_ok-rest_to_end.ensures.law
      (omega arith);
  ended = refl;
}

-- What the calls did to the entry, they did to the reader of its content, and each of them keeps the rest.
use Rattle.no_std_io2.proofs.{Words.{refl, sym, ap, subst}, Forwards.{drained_through, calls_keep}, LimitLemmas.{limit_to_end}}
use Rattle.no_std_io2.specs.{Calls.{PartMay}, declared.io.Take.{Take}}
use Rattle.examples.specs.{Ar.{head_read}, declared.ar.Entry.{Entry}}
use Rattle.examples.proofs.ar.read_rest.Goals as goal

-- the reader of an entry's content
abbrev content_of : {X : Type 0} → Entry X → Take X
content_of e = e.archive.now.content

-- a call of an entry is one of that reader
did_below : {X A : Type 0} {may : Take X → A → Take X → Type 0} (a b : Entry X) (call : A)
    → PartMay may content_of (λ e t. record e { archive = record e.archive { now = record e.archive.now { content = t } } }) a call b
    → may (content_of a) call (content_of b)
did_below {may = may} a b call did = subst (may (content_of a) call) (sym (ap content_of did.rest)) did.does

pub returns : goal.returns
returns g c =
    let law = c.read_to_end.ensures.law in
    let (P, is, took) =
    limit_to_end (drained_through content_of (record { told = λ e. refl; may = did_below; held = λ e. refl }) law) in
    record {
      same = calls_keep _ (λ e. e.archive.ghost_name) (λ a b call did. ap (λ e. e.archive.ghost_name) did.rest) law.calls;
      took = (
        P,
        is,
        took,
        calls_keep _ (λ e. head_read e.archive.now) (λ a b call did. ap (λ e. head_read e.archive.now) did.rest) law.calls,
      );
    }

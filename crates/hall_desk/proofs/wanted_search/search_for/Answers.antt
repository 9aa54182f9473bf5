use Rattle.std.proofs.Common.{Option, subst}
use Rattle.std.specs.Prelude.{IfOk, IfSome}
use Rattle.hall_desk.specs.Memo.{MemoView, Remembers}
use Rattle.hall_desk.proofs.wanted_search.search_for.Goals as goal

pub returns-in-Some-key-clause-fresh : goal.returns-in-Some-key-clause-fresh
returns-in-Some-key-clause-fresh g c =
    subst (λ (memo : Option MemoView). IfOk c.search_by_key.result
    (λ found. IfSome found (λ search. ¬ (Remembers memo search.puzzle search.budget))))
    c.of.ensures.memo c.search_by_key.ensures.fresh

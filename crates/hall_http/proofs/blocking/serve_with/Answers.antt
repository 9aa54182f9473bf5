use Rattle.hall_desk.specs.Desk.{kept_by}
use Rattle.hall_desk.proofs.Promises.{unique_solutions, right_answers}
use Rattle.hall_http.proofs.Runs.{handled_served, handled_sane}
use Rattle.hall_http.proofs.blocking.serve_with.Goals as goal

pub returns-clause-served : goal.returns-clause-served
returns-clause-served g c =
    handled_served kept_by g.S.ReadStore.content g.C.Clock.now_gives _ _ _ _ _ _ c.serve_requests.result
    c.at_rest.ensures c.serve_requests.ensures

pub returns-clause-sane : goal.returns-clause-sane
returns-clause-sane g c =
    handled_sane (λ desk. g.S.ReadStore.content (kept_by desk)) g.C.Clock.now_gives _ _ _ _ _ _ c.serve_requests.result
    c.serve_requests.ensures

pub returns-clause-unique : goal.returns-clause-unique
returns-clause-unique g c = λ h s sane.
    unique_solutions (g.S.ReadStore.content (kept_by c.serve_requests.new.responder)).world
    (handled_sane (λ desk. g.S.ReadStore.content (kept_by desk)) g.C.Clock.now_gives _ _ _ _ _ _
    c.serve_requests.result c.serve_requests.ensures h s sane)

pub returns-clause-right : goal.returns-clause-right
returns-clause-right g c = λ h s sane.
    right_answers (g.S.ReadStore.content (kept_by c.serve_requests.new.responder)).world
    (handled_sane (λ desk. g.S.ReadStore.content (kept_by desk)) g.C.Clock.now_gives _ _ _ _ _ _
    c.serve_requests.result c.serve_requests.ensures h s sane)

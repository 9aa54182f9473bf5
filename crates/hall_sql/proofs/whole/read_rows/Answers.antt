use Rattle.sqlite.specs.Held.{state}
use Rattle.hall_sql.specs.declared.tables.HallTable.TheVariants.{People, Puzzles, Rounds, Places, Answers, Protests}
use Rattle.hall_sql.proofs.RowReads.{fails_next, hall_now, read_next, read_none, six_read}
use Rattle.hall_sql.proofs.whole.read_rows.Goals as goal

pub returns-in_err-people : goal.returns-in_err-people
returns-in_err-people g c =
    let r0 = read_none (state g.S.Store c.args.conn.now) c.requires.hall in
    fails_next r0 People (λ hall. hall) c.from_residual.result c.in_err-people.ensures c.from_residual.ensures.1
    (λ all. all.0)

pub all_puzzles-requires : goal.all_puzzles-requires
all_puzzles-requires g c =
    let r0 = read_none (state g.S.Store c.args.conn.now) c.requires.hall in
    let r1 = read_next r0 People (λ hall. hall) c.in_ok-people.ensures in
    record { hall = hall_now r1 }

pub returns-in_err-puzzles : goal.returns-in_err-puzzles
returns-in_err-puzzles g c =
    let r0 = read_none (state g.S.Store c.args.conn.now) c.requires.hall in
    let r1 = read_next r0 People (λ hall. hall) c.in_ok-people.ensures in
    fails_next r1 Puzzles (λ hall. hall) c.from_residual-in_err-puzzles.result c.in_err-puzzles.ensures
    c.from_residual-in_err-puzzles.ensures.1 (λ all. all.1.0)

pub rounds-requires : goal.rounds-requires
rounds-requires g c =
    let r0 = read_none (state g.S.Store c.args.conn.now) c.requires.hall in
    let r1 = read_next r0 People (λ hall. hall) c.in_ok-people.ensures in
    let r2 = read_next r1 Puzzles (λ hall. hall) c.in_ok-puzzles.ensures in
    record { hall = hall_now r2 }

pub returns-in_err-heads : goal.returns-in_err-heads
returns-in_err-heads g c =
    let r0 = read_none (state g.S.Store c.args.conn.now) c.requires.hall in
    let r1 = read_next r0 People (λ hall. hall) c.in_ok-people.ensures in
    let r2 = read_next r1 Puzzles (λ hall. hall) c.in_ok-puzzles.ensures in
    fails_next r2 Rounds (λ hall. hall) c.from_residual-in_err-heads.result c.in_err-heads.ensures
    c.from_residual-in_err-heads.ensures.1 (λ all. all.1.1.0)

pub all_places-requires : goal.all_places-requires
all_places-requires g c =
    let r0 = read_none (state g.S.Store c.args.conn.now) c.requires.hall in
    let r1 = read_next r0 People (λ hall. hall) c.in_ok-people.ensures in
    let r2 = read_next r1 Puzzles (λ hall. hall) c.in_ok-puzzles.ensures in
    let r3 = read_next r2 Rounds (λ hall. hall) c.in_ok-heads.ensures in
    record { hall = hall_now r3 }

pub returns-in_err-places : goal.returns-in_err-places
returns-in_err-places g c =
    let r0 = read_none (state g.S.Store c.args.conn.now) c.requires.hall in
    let r1 = read_next r0 People (λ hall. hall) c.in_ok-people.ensures in
    let r2 = read_next r1 Puzzles (λ hall. hall) c.in_ok-puzzles.ensures in
    let r3 = read_next r2 Rounds (λ hall. hall) c.in_ok-heads.ensures in
    fails_next r3 Places (λ hall. hall) c.from_residual-in_err-places.result c.in_err-places.ensures
    c.from_residual-in_err-places.ensures.1 (λ all. all.1.1.1.0)

pub all_answers-requires : goal.all_answers-requires
all_answers-requires g c =
    let r0 = read_none (state g.S.Store c.args.conn.now) c.requires.hall in
    let r1 = read_next r0 People (λ hall. hall) c.in_ok-people.ensures in
    let r2 = read_next r1 Puzzles (λ hall. hall) c.in_ok-puzzles.ensures in
    let r3 = read_next r2 Rounds (λ hall. hall) c.in_ok-heads.ensures in
    let r4 = read_next r3 Places (λ hall. hall) c.in_ok-places.ensures in
    record { hall = hall_now r4 }

pub returns-in_err-answers : goal.returns-in_err-answers
returns-in_err-answers g c =
    let r0 = read_none (state g.S.Store c.args.conn.now) c.requires.hall in
    let r1 = read_next r0 People (λ hall. hall) c.in_ok-people.ensures in
    let r2 = read_next r1 Puzzles (λ hall. hall) c.in_ok-puzzles.ensures in
    let r3 = read_next r2 Rounds (λ hall. hall) c.in_ok-heads.ensures in
    let r4 = read_next r3 Places (λ hall. hall) c.in_ok-places.ensures in
    fails_next r4 Answers (λ hall. hall) c.from_residual-in_err-answers.result c.in_err-answers.ensures
    c.from_residual-in_err-answers.ensures.1 (λ all. all.1.1.1.1.0)

pub all_protests-requires : goal.all_protests-requires
all_protests-requires g c =
    let r0 = read_none (state g.S.Store c.args.conn.now) c.requires.hall in
    let r1 = read_next r0 People (λ hall. hall) c.in_ok-people.ensures in
    let r2 = read_next r1 Puzzles (λ hall. hall) c.in_ok-puzzles.ensures in
    let r3 = read_next r2 Rounds (λ hall. hall) c.in_ok-heads.ensures in
    let r4 = read_next r3 Places (λ hall. hall) c.in_ok-places.ensures in
    let r5 = read_next r4 Answers (λ hall. hall) c.in_ok-answers.ensures in
    record { hall = hall_now r5 }

pub returns-in_err-protests : goal.returns-in_err-protests
returns-in_err-protests g c =
    let r0 = read_none (state g.S.Store c.args.conn.now) c.requires.hall in
    let r1 = read_next r0 People (λ hall. hall) c.in_ok-people.ensures in
    let r2 = read_next r1 Puzzles (λ hall. hall) c.in_ok-puzzles.ensures in
    let r3 = read_next r2 Rounds (λ hall. hall) c.in_ok-heads.ensures in
    let r4 = read_next r3 Places (λ hall. hall) c.in_ok-places.ensures in
    let r5 = read_next r4 Answers (λ hall. hall) c.in_ok-answers.ensures in
    fails_next r5 Protests (λ hall. hall) c.from_residual-in_err-protests.result c.in_err-protests.ensures
    c.from_residual-in_err-protests.ensures.1 (λ all. all.1.1.1.1.1.0)

pub returns : goal.returns
returns g c =
    let r0 = read_none (state g.S.Store c.args.conn.now) c.requires.hall in
    let r1 = read_next r0 People (λ hall. hall) c.in_ok-people.ensures in
    let r2 = read_next r1 Puzzles (λ hall. hall) c.in_ok-puzzles.ensures in
    let r3 = read_next r2 Rounds (λ hall. hall) c.in_ok-heads.ensures in
    let r4 = read_next r3 Places (λ hall. hall) c.in_ok-places.ensures in
    let r5 = read_next r4 Answers (λ hall. hall) c.in_ok-answers.ensures in
    let r6 = read_next r5 Protests (λ hall. hall) c.in_ok-protests.ensures in
    six_read _ r6 (λ clean. (c.in_ok-protests.ensures.served clean).0)

-- What each statement asks, as it is computed of its text.
use Rattle.std.proofs.Common.{◌≡◌, List, ℕ, [], None, true}
use Rattle.sqlite.specs.Listing.{understood}
use Rattle.sqlite.specs.Schema.{Schema}
use Rattle.sqlite.proofs.Callers.{IsPlain, command_of}
use Rattle.sqlite_value.specs.declared.keys.Key.{Key}
use Rattle.sqlite.specs.Term.{Term}
use Rattle.sqlite.specs.Command.TheVariants.{Select}
use Rattle.hall_sql.specs.Asked.{is_whole}
use Rattle.hall_sql.specs.Statements.{plain_query}
use Rattle.hall_sql.specs.Laws.{AskOfPeople, AskOfPuzzles, AskOfRounds, AskOfPlaces, AskOfTesters, AskOfAnswers}
use Rattle.hall_sql.specs.Laws.{AskOfProtests, AskForRowids, Is, IsCommand}
use Rattle.hall_sql.proofs.AnswerTexts.{answer_is, answers_of_is, answers_in_is, answers_given_is, number_taken_is}
use Rattle.hall_sql.proofs.AnswerTexts.{add_answer_is, all_answers_are, answers_between_is}
use Rattle.hall_sql.proofs.HeadTexts.{head_is, look_head_is, add_head_is, replace_head_is}
use Rattle.hall_sql.proofs.PeopleTexts.{person_is, person_by_key_is, people_after_is, add_person_is, all_people_are}
use Rattle.hall_sql.proofs.PlaceTexts.{add_place_is, drop_places_is}
use Rattle.hall_sql.proofs.ProtestTexts.{protest_is, protests_of_is, protests_in_is, add_protest_is, rule_protest_is}
use Rattle.hall_sql.proofs.ProtestTexts.{all_protests_are}
use Rattle.hall_sql.proofs.PuzzleTexts.{puzzle_is, puzzles_of_is, look_puzzle_is, add_puzzle_is, replace_puzzle_is}
use Rattle.hall_sql.proofs.PuzzleTexts.{all_puzzles_are}
use Rattle.hall_sql.proofs.Queries.{command_in, law}
use Rattle.hall_sql.proofs.RoundQueries.{places_of_is, places_with_is, all_places_are}
use Rattle.hall_sql.proofs.RoundTexts.{all_rounds_are}
use Rattle.hall_sql.proofs.TesterTexts.{testers_of_is, add_tester_is, drop_testers_is, all_testers_are}
use Rattle.sqlite_schema.specs.declared.command.Command.{Command}
use Rattle.hall_sql.proofs.ScanLemmas.{rowids_are}
use Rattle.hall_sql.proofs.Wordings.{Wording, by_hall, hall_in}
use Rattle.hall_sql.proofs.Versions.{AsksAll}
use Rattle.hall_sql.proofs.Written.{add_person_whole, look_puzzle_whole, add_puzzle_whole, replace_puzzle_whole}
use Rattle.hall_sql.proofs.Written.{look_head_whole, add_head_whole, replace_head_whole, add_place_whole}
use Rattle.hall_sql.proofs.Written.{drop_places_whole, add_tester_whole, drop_testers_whole, add_answer_whole}
use Rattle.hall_sql.proofs.Written.{add_protest_whole, rule_protest_whole}

-- what was computed of a text that lists a table
listing : {text : List ℕ} {tree : ℕ} {project : List Term} {order : List (Term × Key)} {names : List (List ℕ)}
    {schema : Schema}
    → AsksAll text tree project order names schema
    → IsCommand schema text 0 (Select (record { lets = []; body = plain_query tree [] project order }) names)
listing all = record { is = all.is; plain = all.plain; whole = all.whole }

-- a statement in any words of a hall's tables
over_halls : {sql : List ℕ} {parameters : ℕ} {command : Command}
    → ((u : Wording) → IsCommand (hall_in u) sql parameters command) → Is sql parameters command
over_halls {sql} {parameters} {command} = by_hall (λ schema. IsCommand schema sql parameters command)

-- what was computed of a text that writes
of_write : {sql : List ℕ} {parameters : ℕ} {command : Command}
    → ((u : Wording) → (command_of (understood (hall_in u) sql) ≡ command) × IsPlain (understood (hall_in u) sql))
    → ((u : Wording) → is_whole sql parameters (understood (hall_in u) sql) ≡ true) → Is sql parameters command
of_write is whole = over_halls (λ u. record { is = (is u).0; plain = (is u).1; whole = whole u })

pub asks_of_people : AskOfPeople
asks_of_people = record {
  person = law (person_is []);
  person_by_key = law (person_by_key_is []);
  people_after = over_halls (λ u. record {
    is = (people_after_is u).0;
    plain = (people_after_is u).2;
    whole = (people_after_is u).3;
  });
  all_people = λ schema has. command_in (all_people_are schema has);
  add_person = of_write add_person_is add_person_whole;
}

pub asks_of_puzzles : AskOfPuzzles
asks_of_puzzles = record {
  puzzle = law (puzzle_is (record { author = []; label = [] }));
  puzzles_of = law (puzzles_of_is []);
  all_puzzles = λ schema has. command_in (all_puzzles_are schema has);
  look_puzzle = over_halls (λ u. record {
    is = (look_puzzle_is u).0;
    plain = (look_puzzle_is u).2;
    whole =
        look_puzzle_whole u;
  });
  add_puzzle = of_write add_puzzle_is add_puzzle_whole;
  replace_puzzle = of_write replace_puzzle_is replace_puzzle_whole;
}

pub asks_of_rounds : AskOfRounds
asks_of_rounds = record {
  head = law (head_is []);
  all_rounds = λ schema has. command_in (all_rounds_are schema has);
  look_head = over_halls (λ u. record {
    is = (look_head_is u).0;
    plain = (look_head_is u).2;
    whole = look_head_whole
        u;
  });
  add_head = of_write add_head_is add_head_whole;
  replace_head = of_write replace_head_is replace_head_whole;
}

pub asks_of_places : AskOfPlaces
asks_of_places = record {
  places_of = law (places_of_is []);
  places_with = law (places_with_is (record { author = []; label = [] }));
  all_places = λ schema has. command_in (all_places_are schema has);
  add_place = of_write add_place_is add_place_whole;
  drop_places = of_write drop_places_is drop_places_whole;
}

pub asks_of_testers : AskOfTesters
asks_of_testers = record {
  testers_of = law (testers_of_is []);
  all_testers = λ schema has. command_in (all_testers_are schema has);
  add_tester = of_write add_tester_is add_tester_whole;
  drop_testers = of_write drop_testers_is drop_testers_whole;
}

pub asks_of_answers : AskOfAnswers
asks_of_answers = record {
  answer = law (answer_is (record { entrant = []; round = []; number = 0; token = [] }));
  answers_of = law (answers_of_is [] []);
  answers_in = law (answers_in_is []);
  answers_between = law (answers_between_is [] None None);
  answers_given = law (answers_given_is [] [] 0);
  number_taken = law (number_taken_is [] [] 0 0);
  all_answers = λ schema has. command_in (all_answers_are schema has);
  add_answer = of_write add_answer_is add_answer_whole;
}

pub asks_of_protests : AskOfProtests
asks_of_protests = record {
  protest = law (protest_is (record { entrant = []; round = []; token = [] }));
  protests_of = law (protests_of_is [] []);
  protests_in = law (protests_in_is []);
  all_protests = λ schema has. command_in (all_protests_are schema has);
  add_protest = of_write add_protest_is add_protest_whole;
  rule_protest = of_write rule_protest_is rule_protest_whole;
}

pub asks_for_rowids : AskForRowids
asks_for_rowids schema table has = listing (rowids_are schema table has)

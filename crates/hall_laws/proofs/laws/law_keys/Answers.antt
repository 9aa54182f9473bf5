use Rattle.hall_laws.proofs.Keys.{bytes_hide_keys, imports_tell_conflicts, keys_hidden, runs_hide_keys}
use Rattle.hall_laws.proofs.laws.law_keys.Goals as goal

pub returns-clause-replies : goal.returns-clause-replies
returns-clause-replies c = keys_hidden

pub returns-clause-imports : goal.returns-clause-imports
returns-clause-imports c = imports_tell_conflicts

pub returns-clause-runs : goal.returns-clause-runs
returns-clause-runs c = runs_hide_keys

pub returns-clause-bytes : goal.returns-clause-bytes
returns-clause-bytes c = bytes_hide_keys

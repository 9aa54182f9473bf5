use Rattle.hall_grid.proofs.SpellsOrHasFault.{spells_or_fault}
use Rattle.hall_grid.proofs.HasCanonicalText.{has_canonical_text}
use Rattle.hall_grid.proofs.Bodies.{IsBoard-from_Spells}
use Rattle.hall_grid.proofs.SpellsOnePuzzle.{one_puzzle, no_text_fault, one_text_fault}
use Rattle.hall_grid.proofs.HasOneCanonicalText.{one_canonical_text}
use Rattle.hall_grid.proofs.CanonicalSpells.{SpellsText-from_CanonicalText}
use Rattle.hall_grid.proofs.laws.law_texts.Goals as goal

pub returns-clause-spells_or_fault : goal.returns-clause-spells_or_fault
returns-clause-spells_or_fault c = spells_or_fault

pub returns-clause-one_puzzle : goal.returns-clause-one_puzzle
returns-clause-one_puzzle c = one_puzzle

pub returns-clause-boards : goal.returns-clause-boards
returns-clause-boards c = λ text board s. IsBoard-from_Spells board.kind board.size _ board.clues s.size s.body

pub returns-clause-no_fault : goal.returns-clause-no_fault
returns-clause-no_fault c = no_text_fault

pub returns-clause-one_fault : goal.returns-clause-one_fault
returns-clause-one_fault c = one_text_fault

pub returns-clause-has_canonical_text : goal.returns-clause-has_canonical_text
returns-clause-has_canonical_text c = has_canonical_text

pub returns-clause-canonical_spells : goal.returns-clause-canonical_spells
returns-clause-canonical_spells c =
    λ text board is_board canonical. SpellsText-from_CanonicalText text board is_board.size canonical

pub returns-clause-one_canonical_text : goal.returns-clause-one_canonical_text
returns-clause-one_canonical_text c = one_canonical_text

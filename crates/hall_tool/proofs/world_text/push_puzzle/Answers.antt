use Rattle.hall_tool.proofs.world_text.push_puzzle.Goals as goal

pub returns : goal.returns
returns c = rw (c.as_str-author.ensures.text, c.as_str-label.ensures.text) at c.write.ensures.bytes

use Rattle.hall_tool.proofs.world_text.push_spot.Goals as goal

pub returns-in-Entry : goal.returns-in-Entry
returns-in-Entry c =
    rw c.in-Entry.is (rw (c.as_str-round.ensures.text, c.get-number.ensures.value) at c.write-in-Entry.ensures.bytes)

pub returns-in-Tester : goal.returns-in-Tester
returns-in-Tester c =
    rw c.in-Tester.is (rw (c.as_str-round-in-Tester.ensures.text, c.as_str-name.ensures.text) at
    c.write-in-Tester.ensures.bytes)

pub returns-in-Answer : goal.returns-in-Answer
returns-in-Answer c =
    rw c.in-Answer.is (rw (
      c.as_str-entrant.ensures.text,
      c.as_str-round-in-Answer.ensures.text,
      c.get-number-in-Answer.ensures.value,
      c.as_str-token.ensures.text,
    ) at c.write-in-Answer.ensures.bytes)

pub returns-in-Protest : goal.returns-in-Protest
returns-in-Protest c =
    rw c.in-Protest.is (rw (
      c.as_str-entrant-in-Protest.ensures.text,
      c.as_str-round-in-Protest.ensures.text,
      c.as_str-token-in-Protest.ensures.text,
    ) at c.write-in-Protest.ensures.bytes)

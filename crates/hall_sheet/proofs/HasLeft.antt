-- The rows that an iterator has left, as it goes on.
use Rattle.std.proofs.Common.{◌≡◌, ◌∙◌, ◌≤◌, ◌<◌, ◌==◌, ℕ, zero, suc, ◌-◌, List, [], ◌∷◌, ◌++◌, length, Bool, true}
use Rattle.std.proofs.Common.{false, Bor, Some, None, Ok, refl, sym, arith, inl}
use Rattle.std.specs.Prelude.{if◌then◌else◌, ◌&&◌}
use Rattle.csv.specs.Machine.{Read, next_record, step, in_field, start_field, start_record, ends_with, after_end}
use Rattle.csv.specs.Machine.{is_byte, ends_at_end, is_end, fields_after, field_after, line_feed, carriage_return}
use Rattle.csv.specs.Reading.{Reached, RowStep, default_config, records_from}
use Rattle.csv.specs.Records.{Row, fields_of}
use Rattle.csv.specs.declared.parser.Action.{Action}
use Rattle.csv.specs.declared.parser.Action.TheVariants as act
use Rattle.csv.specs.declared.parser.Config.{Config}
use Rattle.csv.specs.declared.parser.State.{State}
use Rattle.csv.specs.declared.parser.State.TheVariants as st
use Rattle.csv.specs.declared.parser.Terminator.{Terminator}
use Rattle.csv.specs.declared.parser.Terminator.TheVariants as term
use Rattle.csv.proofs.ReadFacts.{rows-more, rows-end}
use Rattle.hall_sheet.specs.List.{Rows, HasLeft}

-- where the step ends a record, its state is one between two records
abbrev Between : State × Action → Type 0
Between p = is_end p.1 ≡ true → ends_at_end p.0 ≡ false

between_if : (b : Bool) (p q : State × Action) → Between p → Between q → Between (if b then p else q)
between_if true p q f g = f
between_if false p q f g = g

after_ended : (t : Terminator) (c : ℕ) → ends_at_end (after_end t c) ≡ false
after_ended term.CRLF c = either (c == carriage_return)
  where
    either : (b : Bool) → ends_at_end (if b then st.AfterCr else st.StartRecord) ≡ false
    either true = refl
    either false = refl
after_ended (term.Any t) c = refl

in_field_between : (cfg : Config) (c : ℕ) → Between (in_field cfg c)
in_field_between cfg c =
    between_if (c == cfg.delimiter) (st.StartField, act.EndField)
    (if ends_with cfg.terminator c then (after_end cfg.terminator c, act.EndRecord) else (st.InField, act.Copy))
    (λ e. cc e)
    (between_if (ends_with cfg.terminator c) (after_end cfg.terminator c, act.EndRecord) (st.InField, act.Copy)
    (λ e. after_ended cfg.terminator c) (λ e. cc e))

start_field_between : (cfg : Config) (c : ℕ) → Between (start_field cfg c)
start_field_between cfg c =
    between_if (cfg.quoting && (c == cfg.quote)) (st.InQuoted, act.Skip) (in_field cfg c) (λ e. cc e)
    (in_field_between cfg c)

start_record_between : (cfg : Config) (c : ℕ) → Between (start_record cfg c)
start_record_between cfg c =
    between_if (ends_with cfg.terminator c) (st.StartRecord, act.Skip)
    (if is_byte cfg.comment c then (st.InComment, act.Skip) else start_field cfg c)
    (λ e. cc e)
    (between_if (is_byte cfg.comment c) (st.InComment, act.Skip) (start_field cfg c) (λ e. cc e)
    (start_field_between cfg c))

step_between : (cfg : Config) (s : State) (c : ℕ) → Between (step cfg s c)
step_between cfg st.StartRecord c = start_record_between cfg c
step_between cfg st.StartField c = start_field_between cfg c
step_between cfg st.InField c = in_field_between cfg c
step_between cfg st.InQuoted c =
    between_if (cfg.quoting && (c == cfg.quote)) (st.AfterQuote, act.Skip)
    (if cfg.quoting && is_byte cfg.escape c then (st.InEscape, act.Skip) else (st.InQuoted, act.Copy))
    (λ e. cc e)
    (between_if (cfg.quoting && is_byte cfg.escape c) (st.InEscape, act.Skip) (st.InQuoted, act.Copy) (λ e. cc e)
    (λ e. cc e))
step_between cfg st.InEscape c = λ e. cc e
step_between cfg st.AfterQuote c =
    between_if (cfg.quoting && cfg.double_quote && (c == cfg.quote)) (st.InQuoted, act.Copy) (in_field cfg c)
    (λ e. cc e) (in_field_between cfg c)
step_between cfg st.InComment c =
    between_if (c == line_feed) (st.StartRecord, act.Skip) (st.InComment, act.Skip) (λ e. cc e) (λ e. cc e)
step_between cfg st.AfterCr c =
    between_if (c == line_feed) (st.StartRecord, act.Skip) (start_record cfg c) (λ e. cc e) (start_record_between cfg c)

-- a read takes a byte, where there is one, and ends between two records
record Shrinks (xs : List ℕ) (p : Read) : Type 0 where
  shorter : length p.2 ≤ length xs - 1
  between : ends_at_end p.1 ≡ false

shrinks : (cfg : Config) (s : State) (fields : List (List ℕ)) (field xs : List ℕ) (p : Read)
    → next_record cfg s fields field xs ≡ Some p → Shrinks xs p
unfolding next_record
shrinks cfg s fields field [] p e = at_end (ends_at_end s) e
  where
    at_end : (b : Bool) → (if b then Some (fields ++ (field ∷ []), st.StartRecord, []) else None) ≡ Some p
        → Shrinks [] p
    at_end true e =
        let is : (fields ++ (field ∷ []), st.StartRecord, []) ≡ p = cc e in
        rw (← is) (record { shorter = omega arith; between = refl })
    at_end false e = cc e
shrinks cfg s fields field (c ∷ rest) p e =
    by (is_end (step cfg s c).1) refl e
    (λ e. shrinks cfg (step cfg s c).0 (fields_after (step cfg s c).1 fields field)
    (field_after (step cfg s c).1 c field) rest p e)
  where
    by : (b : Bool) → is_end (step cfg s c).1 ≡ b
        → (if b then Some (fields_after (step cfg s c).1 fields field, (step cfg s c).0, rest)
        else next_record cfg (step cfg s c).0 (fields_after (step cfg s c).1 fields field)
        (field_after (step cfg s c).1 c field) rest) ≡ Some p
        → (next_record cfg (step cfg s c).0 (fields_after (step cfg s c).1 fields field)
        (field_after (step cfg s c).1 c field) rest ≡ Some p → Shrinks rest p)
        → Shrinks (c ∷ rest) p
    by true ends e more =
        let is : (fields_after (step cfg s c).1 fields field, (step cfg s c).0, rest) ≡ p = cc e in
        rw (← is) (record { shorter = omega arith; between = step_between cfg s c ends })
    by false ends e more =
        let h = more e in
        record { shorter = omega (arith, h.shorter); between = h.between }

-- between two records there is none without a byte
some_byte : (cfg : Config) (s : State) (xs : List ℕ) (p : Read) → ends_at_end s ≡ false
    → next_record cfg s [] [] xs ≡ Some p → 0 < length xs
unfolding next_record
some_byte cfg s [] p between e = cc (rw between at e)
some_byte cfg s (c ∷ xs) p between e = omega arith

-- a record is the first of those from a place, and the rest are those from the next
record Moved (cfg : Config) (most : ℕ) (s : State) (xs : List ℕ) (fields : List (List ℕ)) (s2 : State) (zs : List ℕ) :
    Type 0 where
  most2 : ℕ
  rest : records_from cfg most s xs ≡ fields ∷ records_from cfg most2 s2 zs
  enough : length zs < most2
  between : ends_at_end s2 ≡ false

moved_from : (cfg : Config) (most : ℕ) (s : State) (xs : List ℕ) (fields : List (List ℕ)) (s2 : State) (zs : List ℕ)
    → length xs < most → 0 < length xs → Shrinks xs (fields, s2, zs)
    → next_record cfg s [] [] xs ≡ Some (fields, s2, zs)
    → Moved cfg most s xs fields s2 zs
unfolding records_from
moved_from cfg zero s xs fields s2 zs low some h e = absurd (omega (arith, low))
moved_from cfg (suc n) s xs fields s2 zs low some h e =
    record { most2 = n; rest = rw e refl; enough = omega (arith, low, some, h.shorter); between = h.between }

moved : (cfg : Config) (most : ℕ) (s : State) (xs : List ℕ) (fields : List (List ℕ)) (s2 : State) (zs : List ℕ)
    (p : Read)
    → ends_at_end s ≡ false → length xs < most → next_record cfg s [] [] xs ≡ Some p
    → fields ≡ p.0 → p.1 ≡ s2 → p.2 ≡ zs → Moved cfg most s xs fields s2 zs
moved cfg most s xs fields s2 zs p between low e f g h =
    let read : next_record cfg s [] [] xs ≡ Some (fields, s2, zs) = e ∙ (λ i. Some (sym f i, g i, h i)) in
    moved_from cfg most s xs fields s2 zs low (some_byte cfg s xs (fields, s2, zs) between read)
    (shrinks cfg s [] [] xs (fields, s2, zs) read) read

records_none : (cfg : Config) (most : ℕ) (s : State) (xs : List ℕ) → next_record cfg s [] [] xs ≡ None
    → records_from cfg most s xs ≡ []
unfolding records_from
records_none cfg zero s xs e = refl
records_none cfg (suc n) s xs e = rw e refl

-- a row was taken
pub row_taken : (a b : Rows) (left : List (List (List ℕ))) (row : Row) → HasLeft a left
    → RowStep (λ s. Some s.now) a.rdr b.rdr b.left (Some (Ok row))
    → (more : List (List (List ℕ))) × (left ≡ fields_of row ∷ more) × HasLeft b more
unfolding Reached
row_taken a b left row h s =
    let m = rows-more (λ (s : Bor (List ℕ)). Some s.now) a.rdr b.rdr (fields_of row) default_config a.rdr.state h.bytes
    h.bytes [] h.config h.source (refl, refl) s.0 in
    let go = moved default_config h.most a.rdr.state h.bytes (fields_of row) b.rdr.state m.0 m.2.0 h.between h.enough
    m.2.1 m.2.2 m.2.3.0 m.2.3.1 in (
      records_from default_config go.most2 b.rdr.state m.0,
      h.are ∙ go.rest,
      record {
        trim = s.0.3 ∙ h.trim;
        ready = inl s.1;
        turns = s.2;
        config = s.0.2 ∙ h.config;
        between = go.between;
        bytes = m.0;
        source = m.1;
        most = go.most2;
        enough = go.enough;
        are = refl;
      },
    )

-- there was no row
pub none_left : (a b : Rows) (left : List (List (List ℕ))) → HasLeft a left
    → RowStep (λ s. Some s.now) a.rdr b.rdr b.left None → left ≡ []
none_left a b left h s =
    h.are ∙ records_none default_config h.most a.rdr.state h.bytes
    (rows-end (λ (s : Bor (List ℕ)). Some s.now) a.rdr b.rdr [] default_config h.bytes h.config h.source s)

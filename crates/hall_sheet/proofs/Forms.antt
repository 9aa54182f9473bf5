-- What a form says of the bytes of a text: where the form has zeros, the text has digits.
use Rattle.std.proofs.Common.{◌≡◌, refl, arith, ℕ, zero, suc, ◌-◌, true, ◌==◌, List, [], ◌∷◌, length, take, drop}
use Rattle.std.proofs.Common.{length-take, length-drop}
use Rattle.std.specs.Prelude.{slice_range, codes}
use Rattle.std.specs.List.{list_all, zip}
use Rattle.std.specs.Char.{is_ascii_digit}
use Rattle.std.proofs.lemmas.Bool.{and_parts, and_from, eqb-true}
use Rattle.hall_sheet.specs.Start.{fits_mark, has_form}

abbrev pub Fit : List ℕ → List ℕ → Type 0
Fit form text = list_all (λ (p : ℕ × ℕ). fits_mark p.0 p.1) (zip form text) ≡ true

fit_take : (n : ℕ) (form text : List ℕ) → Fit form text → Fit (take n form) (take n text)
fit_take zero form text h = refl
fit_take (suc n) [] text h = refl
fit_take (suc n) (m ∷ ms) [] h = refl
fit_take (suc n) (m ∷ ms) (b ∷ bs) h =
    let (here, more) = and_parts (fits_mark m b) (list_all (λ (p : ℕ × ℕ). fits_mark p.0 p.1) (zip ms bs)) h in and_from
    _ _ here (fit_take n ms bs more)

fit_none : (form : List ℕ) → Fit form []
fit_none [] = refl
fit_none (m ∷ ms) = refl

fit_drop : (n : ℕ) (form text : List ℕ) → Fit form text → Fit (drop n form) (drop n text)
fit_drop zero form text h = h
fit_drop (suc n) [] text h = refl
fit_drop (suc n) (m ∷ ms) [] h = fit_none (drop n ms)
fit_drop (suc n) (m ∷ ms) (b ∷ bs) h = let (here, more) = and_parts (fits_mark m b)
    (list_all (λ (p : ℕ × ℕ). fits_mark p.0 p.1) (zip ms bs)) h in fit_drop n ms bs more

-- a text that fits zeros is digits
fit_digits : (form text : List ℕ) → length text ≡ length form → Fit form text → list_all (λ m. m == 48) form ≡ true
    → list_all is_ascii_digit text ≡ true
fit_digits form [] same h zeros = refl
fit_digits [] (b ∷ bs) same h zeros = absurd (omega (arith, same))
fit_digits (m ∷ ms) (b ∷ bs) same h zeros =
    let (here, more) = and_parts (fits_mark m b) (list_all (λ (p : ℕ × ℕ). fits_mark p.0 p.1) (zip ms bs)) h in
    let (first, rest) = and_parts (m == 48) (list_all (λ m. m == 48) ms) zeros in
    and_from _ _ (rw first at here) (fit_digits ms bs (omega (arith, same)) more rest)

-- so does a part of it
digits_within : (form text : List ℕ) (from to : ℕ) → has_form form text ≡ true
    → list_all (λ m. m == 48) (slice_range form from to) ≡ true
    → list_all is_ascii_digit (slice_range text from to) ≡ true
digits_within form text from to h zeros =
    let (same, fit) = and_parts _ _ h in
    let long : length text ≡ length form = eqb-true _ _ same in
    fit_digits (slice_range form from to) (slice_range text from to)
    (simp (length-take, length-drop) (rw long refl)) (fit_take (to - from) (drop from form) (drop from text)
    (fit_drop from form text fit)) zeros

-- the digits of a civil time
pub record CivilDigits (text : List ℕ) : Type 0 where
  pub whole : length text ≡ 19
  pub year : list_all is_ascii_digit (slice_range text 0 4) ≡ true
  pub month : list_all is_ascii_digit (slice_range text 5 7) ≡ true
  pub day : list_all is_ascii_digit (slice_range text 8 10) ≡ true
  pub hours : list_all is_ascii_digit (slice_range text 11 13) ≡ true
  pub minutes : list_all is_ascii_digit (slice_range text 14 16) ≡ true
  pub seconds : list_all is_ascii_digit (slice_range text 17 19) ≡ true

pub civil_digits : (text : List ℕ) → has_form (codes "0000-00-00T00:00:00") text ≡ true → CivilDigits text
civil_digits text h = record {
  whole = eqb-true _ _ (and_parts _ _ h).0;
  year = digits_within (codes "0000-00-00T00:00:00") text 0 4 h refl;
  month = digits_within (codes "0000-00-00T00:00:00") text 5 7 h refl;
  day = digits_within (codes "0000-00-00T00:00:00") text 8 10 h refl;
  hours = digits_within (codes "0000-00-00T00:00:00") text 11 13 h refl;
  minutes = digits_within (codes "0000-00-00T00:00:00") text 14 16 h refl;
  seconds = digits_within (codes "0000-00-00T00:00:00") text 17 19 h refl;
}

-- the digits of an offset
pub record OffsetDigits (text : List ℕ) : Type 0 where
  pub whole : length text ≡ 6
  pub hours : list_all is_ascii_digit (slice_range text 1 3) ≡ true
  pub minutes : list_all is_ascii_digit (slice_range text 4 6) ≡ true

pub east_digits : (text : List ℕ) → has_form (codes "+00:00") text ≡ true → OffsetDigits text
east_digits text h = record {
  whole = eqb-true _ _ (and_parts _ _ h).0;
  hours = digits_within (codes "+00:00") text 1 3 h refl;
  minutes = digits_within (codes "+00:00") text 4 6 h refl;
}

pub west_digits : (text : List ℕ) → has_form (codes "-00:00") text ≡ true → OffsetDigits text
west_digits text h = record {
  whole = eqb-true _ _ (and_parts _ _ h).0;
  hours = digits_within (codes "-00:00") text 1 3 h refl;
  minutes = digits_within (codes "-00:00") text 4 6 h refl;
}

-- When daylight saving time is in force, by the changes of one year.
use Rattle.std.proofs.Common.{◌≡◌, ◌∙◌, sym, subst, refl, arith, ◌⊎◌, inl, inr, ℤ, pos, neg_ℤ, ◌+ℤ◌, ◌-ℤ◌, ◌*ℤ◌, ◌<ℤ◌}
use Rattle.std.proofs.Common.{◌≤ℤ◌, Some}
use Rattle.std.proofs.lemmas.Int.{ints, by_lt_z}
use Rattle.jiff_core.specs.Calendar.{IsYear, days_in_year}
use Rattle.jiff_core.proofs.CalendarLemmas.{day_count-later_year, days_from_civil-day_count}
use Rattle.jiff_tz.specs.PosixText.{DstText}
use Rattle.jiff_tz.specs.PosixRule.{first_day}
use Rattle.hall_sheet.specs.Clocks.{second_in, IsSaving, AllShowYear, ChangesIn, BeginsFirst, EndsFirst}

some_same : {A : Type 0} {x y : A} → Some x ≡ Some y → x ≡ y
some_same e = cc

-- the seconds at which a year begins and ends
abbrev pub begin : ℤ → ℤ
begin year = first_day year *ℤ pos 86400

abbrev pub end : ℤ → ℤ
end year = (first_day year +ℤ pos (days_in_year year)) *ℤ pos 86400

pub years_rise : (earlier later : ℤ) → IsYear earlier → earlier <ℤ later → end earlier ≤ℤ begin later
years_rise earlier later is rise =
    let low : neg_ℤ (pos 10000) ≤ℤ earlier = let l = is.0 in omega (arith, ints) in
    let next = day_count-later_year earlier later low rise in
    let a = days_from_civil-day_count earlier 1 1 in
    let b = days_from_civil-day_count later 1 1 in
    omega (arith, ints)

-- a second of the year
abbrev pub Reads : ℤ → ℤ → Type 0
Reads year second = (begin year ≤ℤ second) × (second <ℤ end year)

by_year : {P : Type 0} (z y : ℤ) → (z <ℤ y → P) → (z ≡ y → P) → (y <ℤ z → P) → P
by_year z y before same after = by_lt_z z y before (λ h. by_lt_z y z after (λ k. same (omega (arith, ints))))

module _ (std : ℤ) (dst : DstText) where
  -- one of the two clocks shows the year at the moment
  abbrev pub ReadsIn : ℤ → ℤ → Type 0
  ReadsIn year moment = Reads year (moment +ℤ std) ⊎ Reads year (moment +ℤ dst.seconds)

  -- changes of earlier years have come, and those of later years have not
  pub has_come : (z y t m : ℤ) → IsYear z → z <ℤ y → AllShowYear std dst.seconds z t → ReadsIn y m → t <ℤ m
  has_come z y t m is rise shown (inl reads) =
      let r = years_rise z y is rise in
      let a = shown.0.1 in
      let b = reads.0 in
      omega (arith, ints)
  has_come z y t m is rise shown (inr reads) =
      let r = years_rise z y is rise in
      let a = shown.1.1 in
      let b = reads.0 in
      omega (arith, ints)

  pub is_to_come : (z y t m : ℤ) → IsYear y → y <ℤ z → AllShowYear std dst.seconds z t → ReadsIn y m → m <ℤ t
  is_to_come z y t m is rise shown (inl reads) =
      let r = years_rise y z is rise in
      let a = shown.0.0 in
      let b = reads.1 in
      omega (arith, ints)
  is_to_come z y t m is rise shown (inr reads) =
      let r = years_rise y z is rise in
      let a = shown.1.0 in
      let b = reads.1 in
      omega (arith, ints)

  pub reads_change : (y t : ℤ) → AllShowYear std dst.seconds y t → ReadsIn y t
  reads_change y t shown = let a = shown.0.0 in let b = shown.0.1 in inl (omega (arith, ints), omega (arith, ints))

  -- a year has one beginning and one end
  one_begun : (z y t : ℤ) (c : ChangesIn std dst y) → z ≡ y → second_in z dst.start ≡ Some (t +ℤ std) → t ≡ c.begun
  one_begun z y t c same e =
      let both : t +ℤ std ≡ c.begun +ℤ std = some_same (sym (subst (λ x. second_in x dst.start ≡ Some (t +ℤ std)) same
      e) ∙ c.begins) in
      omega (arith, ints)

  one_ended : (z y t : ℤ) (c : ChangesIn std dst y) → z ≡ y → second_in z dst.finish ≡ Some (t +ℤ dst.seconds)
      → t ≡ c.ended
  one_ended z y t c same e =
      let both : t +ℤ dst.seconds ≡ c.ended +ℤ dst.seconds =
      some_same (sym (subst (λ x. second_in x dst.finish ≡ Some (t +ℤ dst.seconds)) same e) ∙ c.ends) in
      omega (arith, ints)

  module _ (all : BeginsFirst std dst) (y m : ℤ) (is : IsYear y) (reads : ReadsIn y m) where
    pub saving_between : (all y is).0.begun ≤ℤ m → m <ℤ (all y is).0.ended → IsSaving std dst m
    saving_between begun before =
        let c = (all y is).0 in (
          c.begun,
          (y, is, c.begins),
          begun,
          λ t comes after late.
              let z = comes.0 in
              let k = (all z comes.1).0 in
              by_year z y
              (λ rise.
              let t_is = one_ended z z t k refl comes.2 in
              let come = has_come z y k.ended c.begun comes.1 rise k.ended_in (reads_change y c.begun c.begun_in) in
              absurd (omega (arith, ints)))
              (λ same. let t_is = one_ended z y t c same comes.2 in absurd (omega (arith, ints)))
              (λ rise.
              let t_is = one_ended z z t k refl comes.2 in
              let come = is_to_come z y k.ended m is rise k.ended_in reads in
              absurd (omega (arith, ints))),
        )

    pub not_saving_beside : (m <ℤ (all y is).0.begun) ⊎ ((all y is).0.ended ≤ℤ m) → IsSaving std dst m → ⊥
    not_saving_beside out saving =
        let c = (all y is).0 in
        let t = saving.0 in
        let comes = saving.1 in
        let z = comes.0 in
        let begun = saving.2 in
        let still = saving.3 in
        let k = (all z comes.1).0 in
        let apart = (all z comes.1).1.0 in
        let near = (all z comes.1).1.1 in
        by_year z y
        (λ rise.
        let t_is = one_begun z z t k refl comes.2 in
        let come = has_come z y k.ended m comes.1 rise k.ended_in reads in
        still k.ended (z, comes.1, k.ends) (omega (arith, ints)) (omega (arith, ints)))
        (λ same.
        let t_is = one_begun z y t c same comes.2 in
        let apart = (all y is).1.0 in
        let near = (all y is).1.1 in
        elim out [
          | inl early ↦ absurd (omega (arith, ints))
          | inr late ↦ still c.ended (y, is, c.ends) (omega (arith, ints)) late
        ])
        (λ rise.
        let t_is = one_begun z z t k refl comes.2 in
        let come = is_to_come z y k.begun m is rise k.begun_in reads in
        absurd (omega (arith, ints)))

  module _ (all : EndsFirst std dst) (y m : ℤ) (is : IsYear y) (reads : ReadsIn y m) where
    pub not_saving_between : (all y is).0.ended ≤ℤ m → m <ℤ (all y is).0.begun → IsSaving std dst m → ⊥
    not_saving_between ended before saving =
        let c = (all y is).0 in
        let t = saving.0 in
        let comes = saving.1 in
        let z = comes.0 in
        let begun = saving.2 in
        let still = saving.3 in
        let k = (all z comes.1).0 in
        by_year z y
        (λ rise.
        let t_is = one_begun z z t k refl comes.2 in
        let come = has_come z y k.begun c.ended comes.1 rise k.begun_in (reads_change y c.ended c.ended_in) in
        still c.ended (y, is, c.ends) (omega (arith, ints)) ended)
        (λ same. let t_is = one_begun z y t c same comes.2 in absurd (omega (arith, ints)))
        (λ rise.
        let t_is = one_begun z z t k refl comes.2 in
        let come = is_to_come z y k.begun m is rise k.begun_in reads in
        absurd (omega (arith, ints)))

    pub saving_after : (all y is).0.begun ≤ℤ m → IsSaving std dst m
    saving_after begun =
        let c = (all y is).0 in
        let apart = (all y is).1.0 in
        let near = (all y is).1.1 in (
          c.begun,
          (y, is, c.begins),
          begun,
          λ t comes after late.
              let z = comes.0 in
              let k = (all z comes.1).0 in
              by_year z y
              (λ rise.
              let t_is = one_ended z z t k refl comes.2 in
              let come = has_come z y k.ended c.begun comes.1 rise k.ended_in (reads_change y c.begun c.begun_in) in
              absurd (omega (arith, ints)))
              (λ same. let t_is = one_ended z y t c same comes.2 in absurd (omega (arith, ints)))
              (λ rise.
              let t_is = one_ended z z t k refl comes.2 in
              let come = is_to_come z y k.ended m is rise k.ended_in reads in
              absurd (omega (arith, ints))),
        )

    pub saving_before : IsYear (y -ℤ pos 1) → m <ℤ (all y is).0.ended → IsSaving std dst m
    saving_before last before =
        let c = (all y is).0 in
        let p = y -ℤ pos 1 in
        let k = (all p last).0 in
        let apart = (all p last).1.0 in
        let near = (all p last).1.1 in
        let rise : p <ℤ y = omega (arith, ints) in
        let come = has_come p y k.begun m last rise k.begun_in reads in (
          k.begun,
          (p, last, k.begins),
          omega (arith, ints),
          λ t comes after late.
              let z = comes.0 in
              let n = (all z comes.1).0 in
              by_year z y
              (λ under. by_year z p
              (λ lower.
              let t_is = one_ended z z t n refl comes.2 in
              let gone = has_come z p n.ended k.begun comes.1 lower n.ended_in (reads_change p k.begun k.begun_in) in
              absurd (omega (arith, ints)))
              (λ same. let t_is = one_ended z p t k same comes.2 in absurd (omega (arith, ints)))
              (λ over. absurd (omega (arith, ints))))
              (λ same. let t_is = one_ended z y t c same comes.2 in absurd (omega (arith, ints)))
              (λ over.
              let t_is = one_ended z z t n refl comes.2 in
              let coming = is_to_come z y n.ended m is over n.ended_in reads in
              absurd (omega (arith, ints))),
        )

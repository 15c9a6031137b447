-- Cells that show a fraction, or whether there is a gap.
use Rattle.std.proofs.Common.{◌≡◌, ℕ, ℤ, List, [], ◌++◌, codes, refl, sym, subst}
use Rattle.numbers.specs.Fractions.{Fraction, IsReduced, HasValue, fraction_text}
use Rattle.report.specs.Lines.{ShowsRatio, ShowsGap}

pub shows_ratio : (num den : ℤ) (f : Fraction) (shown : List ℕ) → IsReduced f → HasValue f num den → shown ≡ fraction_text f → ShowsRatio [] num den shown
shows_ratio num den f shown r h e = record { value = f; lowest = r.lowest; same = h; text_is = e }

pub shows_cost : (num den : ℤ) (f : Fraction) (shown : List ℕ) → IsReduced f → HasValue f num den → shown ≡ codes "cost " ++ fraction_text f → ShowsRatio (codes "cost ") num den shown
shows_cost num den f shown r h e = record { value = f; lowest = r.lowest; same = h; text_is = e }

-- the bytes of a text that shows a fraction
pub shown_by : (label : List ℕ) (num den : ℤ) (shown bytes : List ℕ) → bytes ≡ shown → ShowsRatio label num den shown → ShowsRatio label num den bytes
shown_by label num den shown bytes e h = subst (ShowsRatio label num den) (sym e) h

pub gap_closed : (num den : ℤ) (f bound : Fraction) → HasValue f num den → bound ≡ f → ShowsGap num den bound (codes "gap none")
gap_closed num den f bound h e = record { closed = λ _. refl; still_open = λ n. absurd (n (subst (λ g. HasValue g num den) (sym e) h)) }

pub gap_open : (num den : ℤ) (f bound : Fraction) → ((other : Fraction) → IsReduced other → HasValue other num den → other ≡ f) → IsReduced bound → ¬ (bound ≡ f) → ShowsGap num den bound (codes "gap open")
gap_open num den f bound one r n = record { closed = λ h. absurd (n (one bound r h)); still_open = λ _. refl }

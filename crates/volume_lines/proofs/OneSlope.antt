-- Between two breakpoints without another one strictly inside lies one slab; whether there is another one can be told.
use Rattle.std.proofs.Common.{◌≡◌, ℕ, zero, suc, List, [], ◌∷◌, ◌++◌, Bool, true, false, cond, arith, ap, ◌∙◌, refl, ⊎_elim, ◌⊎◌, inl, inr}
use Rattle.std.specs.Prelude.{ℤ, pos, ◌+ℤ◌, ◌≤ℤ◌, ◌<ℤ◌, int_le, ◌&&◌}
use Rattle.std.proofs.lemmas.Int.{ints}
use Rattle.algebra.proofs.Order.{int_lt_or_le}
use Rattle.road_types.specs.declared.road.Slab.{Slab}
use Rattle.road_types.specs.Volumes.{thickness_of}
use Rattle.road_types.specs.Breakpoints.{leading_thickness}
use Rattle.road_types.specs.Lines.{areas_between}
use Rattle.volume_lines.proofs.SlabRises.{AreThick, IsSlopeWithin}
use Rattle.volume_lines.proofs.Slopes.{IsBetweenSlabs}

-- every area is at least 0 and at most 10,000,000
abbrev pub HaveAreas : List Slab → Type 0
HaveAreas [] = Unit {0}
HaveAreas (slab ∷ slabs) = IsSlopeWithin (pos 0) (pos 10000000) slab.area × HaveAreas slabs

-- no slab ends strictly between low and high
abbrev pub EndsOutside : List Slab → ℤ → ℤ → ℤ → Type 0
EndsOutside [] top low high = Unit {0}
EndsOutside (slab ∷ slabs) top low high =
    (((top +ℤ slab.thick) ≤ℤ low) ⊎ (high ≤ℤ (top +ℤ slab.thick))) × EndsOutside slabs (top +ℤ slab.thick) low high

not_between : (low high top bottom area : ℤ) (rest : List ℤ) → (top <ℤ low) ⊎ (high <ℤ bottom)
    → cond (int_le low top && int_le bottom high) (area ∷ []) [] ++ rest ≡ rest
not_between low high top bottom area rest h =
    ⊎_elim
    (λ (l : top <ℤ low). let t : int_le low top ≡ false = grind (arith, ints) in ap (λ b. cond (b && int_le bottom high) (area ∷ []) [] ++ rest) t)
    (λ (l : high <ℤ bottom). let t : int_le bottom high ≡ false = grind (arith, ints) in (by_second (int_le low top) (int_le bottom high) t))
    h
  where
    by_second : (a b : Bool) → b ≡ false → cond (a && b) (area ∷ []) [] ++ rest ≡ rest
    by_second true b e = ap (λ c. cond c (area ∷ []) [] ++ rest) e
    by_second false b e = refl

is_between : (low high top bottom area : ℤ) (rest : List ℤ) → low ≤ℤ top → bottom ≤ℤ high
    → cond (int_le low top && int_le bottom high) (area ∷ []) [] ++ rest ≡ area ∷ rest
is_between low high top bottom area rest l h =
    let first : int_le low top ≡ true = grind (arith, ints) in
    let second : int_le bottom high ≡ true = grind (arith, ints) in
    ap (λ b. cond (b && int_le bottom high) (area ∷ []) [] ++ rest) first ∙ ap (λ b. cond b (area ∷ []) [] ++ rest) second

-- no slab lies between depths above the first one's begin
pub no_slopes : (slabs : List Slab) (top low high : ℤ) → AreThick slabs → high ≤ℤ top → areas_between slabs top low high ≡ []
unfolding areas_between
no_slopes [] top low high t h = refl
no_slopes (slab ∷ slabs) top low high t h =
    not_between low high top (top +ℤ slab.thick) slab.area (areas_between slabs (top +ℤ slab.thick) low high) (inr (omega (arith, ints, t.0)))
    ∙ no_slopes slabs (top +ℤ slab.thick) low high t.1 (omega (arith, ints, t.0))

-- one area, and within the limits
pub record IsOneSlope (xs : List ℤ) : Type 0 where
  pub area : ℤ
  pub only : xs ≡ area ∷ []
  pub within : IsSlopeWithin (pos 0) (pos 10000000) area

pub one_slope : (slabs : List Slab) (top low high : ℤ) → AreThick slabs → HaveAreas slabs → EndsOutside slabs top low high
    → IsBetweenSlabs slabs top low → IsBetweenSlabs slabs top high → top ≤ℤ low → low <ℤ high → high ≤ℤ (top +ℤ thickness_of slabs)
    → IsOneSlope (areas_between slabs top low high)
unfolding areas_between thickness_of
one_slope [] top low high t a e l h x y z = absurd (omega (arith, ints))
one_slope (slab ∷ slabs) top low high t a e l h x y z =
    let bottom = top +ℤ slab.thick in
    let rest = areas_between slabs bottom low high in
    ⊎_elim
    (λ (p : bottom ≤ℤ low).
    let o = one_slope slabs bottom low high t.1 a.1 e.1 l.1 h.1 p y (omega (arith, ints)) in
    record { area = o.area; only = not_between low high top bottom slab.area rest (inl (omega (arith, ints, t.0))) ∙ o.only; within = o.within })
    (λ (p : high ≤ℤ bottom).
    let begins : low ≤ℤ top = ⊎_elim (λ (q : low ≤ℤ top). q) (λ (q : bottom ≤ℤ low). absurd (omega (arith, ints))) l.0 in
    let ends : bottom ≤ℤ high = ⊎_elim (λ (q : high ≤ℤ top). absurd (omega (arith, ints))) (λ (q : bottom ≤ℤ high). q) h.0 in
    record {
      area = slab.area;
      only = is_between low high top bottom slab.area rest begins ends ∙ ap (λ xs. slab.area ∷ xs) (no_slopes slabs bottom low high t.1 p);
      within = a.0;
    })
    e.0

-- where no sum of leading slabs lies strictly inside, no slab ends there
pub ends_outside : (slabs : List Slab) (top low high : ℤ)
    → ((k : ℕ) → ((top +ℤ leading_thickness slabs k) ≤ℤ low) ⊎ (high ≤ℤ (top +ℤ leading_thickness slabs k))) → EndsOutside slabs top low high
unfolding thickness_of
ends_outside [] top low high h = tt
ends_outside (slab ∷ slabs) top low high h = (
  ⊎_elim (λ (l : (top +ℤ (slab.thick +ℤ pos 0)) ≤ℤ low). inl (omega (arith, ints))) (λ (l : high ≤ℤ (top +ℤ (slab.thick +ℤ pos 0))). inr (omega (arith, ints))) (h 1),
  ends_outside slabs (top +ℤ slab.thick) low high
      (λ k.
      ⊎_elim
      (λ (l : (top +ℤ (slab.thick +ℤ leading_thickness slabs k)) ≤ℤ low). inl (omega (arith, ints)))
      (λ (l : high ≤ℤ (top +ℤ (slab.thick +ℤ leading_thickness slabs k))). inr (omega (arith, ints)))
      (h (suc k))),
)

-- some sum of leading slabs lies strictly between low and high, or none
abbrev pub HasEndInside : List Slab → ℤ → ℤ → ℤ → Type 0
HasEndInside slabs top low high = (k : ℕ) × ((low <ℤ (top +ℤ leading_thickness slabs k)) × ((top +ℤ leading_thickness slabs k) <ℤ high))

abbrev pub HasNoEndInside : List Slab → ℤ → ℤ → ℤ → Type 0
HasNoEndInside slabs top low high = (k : ℕ) → ((top +ℤ leading_thickness slabs k) ≤ℤ low) ⊎ (high ≤ℤ (top +ℤ leading_thickness slabs k))

inside_or_not : (low high x : ℤ) → ((low <ℤ x) × (x <ℤ high)) ⊎ ((x ≤ℤ low) ⊎ (high ≤ℤ x))
inside_or_not low high x =
    ⊎_elim
    (λ (l : low <ℤ x). ⊎_elim (λ (h : x <ℤ high). inl (l, h)) (λ (h : high ≤ℤ x). inr (inr h)) (int_lt_or_le x high))
    (λ (l : x ≤ℤ low). inr (inl l))
    (int_lt_or_le low x)

pub end_inside : (slabs : List Slab) (top low high : ℤ) → HasEndInside slabs top low high ⊎ HasNoEndInside slabs top low high
unfolding thickness_of
end_inside [] top low high =
    ⊎_elim
    (λ (h : (low <ℤ (top +ℤ pos 0)) × ((top +ℤ pos 0) <ℤ high)). inl (0, h))
    (λ (h : ((top +ℤ pos 0) ≤ℤ low) ⊎ (high ≤ℤ (top +ℤ pos 0))). inr (none h))
    (inside_or_not low high (top +ℤ pos 0))
  where
    none : (((top +ℤ pos 0) ≤ℤ low) ⊎ (high ≤ℤ (top +ℤ pos 0))) → HasNoEndInside [] top low high
    none h zero = h
    none h (suc k) = h
end_inside (slab ∷ slabs) top low high =
    ⊎_elim
    (λ (h : (low <ℤ (top +ℤ pos 0)) × ((top +ℤ pos 0) <ℤ high)). inl (0, h))
    (λ (h : ((top +ℤ pos 0) ≤ℤ low) ⊎ (high ≤ℤ (top +ℤ pos 0))).
    ⊎_elim
    (λ (r : HasEndInside slabs (top +ℤ slab.thick) low high). inl (suc r.0, (omega (arith, ints, r.1.0), omega (arith, ints, r.1.1))))
    (λ (r : HasNoEndInside slabs (top +ℤ slab.thick) low high). inr (none h r))
    (end_inside slabs (top +ℤ slab.thick) low high))
    (inside_or_not low high (top +ℤ pos 0))
  where
    none : (((top +ℤ pos 0) ≤ℤ low) ⊎ (high ≤ℤ (top +ℤ pos 0))) → HasNoEndInside slabs (top +ℤ slab.thick) low high → HasNoEndInside (slab ∷ slabs) top low high
    none h r zero = h
    none h r (suc k) =
        ⊎_elim
        (λ (l : ((top +ℤ slab.thick) +ℤ leading_thickness slabs k) ≤ℤ low). inl (omega (arith, ints)))
        (λ (l : high ≤ℤ ((top +ℤ slab.thick) +ℤ leading_thickness slabs k)). inr (omega (arith, ints)))
        (r k)

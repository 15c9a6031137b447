use Rattle.std.proofs.Common.{◌≡◌}
use Rattle.std.specs.Prelude.{◌*ℤ◌, FitsSigned}
use Rattle.std.specs.Int.{w64, w128}
use Rattle.std.proofs.lemmas.Int.{to_z-of_z}
use Rattle.safe_bounds.proofs.StepWidths.{product_of_word, word_product_fits}
use Rattle.safe_bounds.proofs.products.times_word.Goals as goal

pub times-requires : goal.times-requires
times-requires c =
    let mult : FitsSigned w128 c.args.mult = c.ranges.mult in
    let word : FitsSigned w64 c.args.word = c.ranges.word in
    let wide : FitsSigned w128 c.from.result = record { sfits = c.from.type_inv } in
    let value = simp to_z-of_z at c.from.ensures in
    simp to_z-of_z (rw value (word_product_fits c.args.mult c.args.word c.requires word))

module _ (c : goal.After-times) where
  product : c.times.result ≡ c.args.mult *ℤ c.args.word
  product =
      let mult : FitsSigned w128 c.args.mult = c.ranges.mult in
      let word : FitsSigned w64 c.args.word = c.ranges.word in
      let wide : FitsSigned w128 c.from.result = record { sfits = c.from.type_inv } in
      let value = simp to_z-of_z at c.from.ensures in
      rw value at (simp to_z-of_z at c.times.ensures)

pub returns-clause-value : goal.returns-clause-value
returns-clause-value c =
    let made : FitsSigned w128 c.times.result = record { sfits = c.times.type_inv } in
    simp to_z-of_z (product c)

pub returns-clause-small : goal.returns-clause-small
returns-clause-small c =
    let made : FitsSigned w128 c.times.result = record { sfits = c.times.type_inv } in
    simp to_z-of_z (rw (product c) (product_of_word c.args.mult c.args.word c.requires c.ranges.word))

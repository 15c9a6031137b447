-- The terms of forms, what they ask, and a store of rows that grew by some.
use Rattle.std.specs.Prelude.{◌≡◌, List, ◌++◌, map, ℤ}
use Rattle.road_types.specs.Forms.{Form}
use Rattle.road_types.specs.RoadPrograms.{terms_of}
use Rattle.road_types.specs.declared.road.Road.{Road}
use Rattle.term_store.specs.declared.side.Side.{Side}
use Rattle.term_store.specs.HeldRows.{HeldRows}
use Rattle.term_store.specs.declared.term.Term.{Term}

-- the terms of a form's row
abbrev pub form_terms : Road → Form → List (Term ℤ)
form_terms road form = terms_of road form.entries

-- what a form asks of the sum of its terms
abbrev pub asked : Form → Side × ℤ
asked form = (form.side, form.right)

-- the terms of the rows of forms
abbrev pub forms_terms : Road → List Form → List (List (Term ℤ))
forms_terms road forms = map (form_terms road) forms

-- some rows were put behind those of a store, and its room and width are as before
pub record Grew (old new : HeldRows (Term ℤ)) (more : List (List (Term ℤ))) : Type 0 where
  pub rows : new.rows ≡ old.rows ++ more
  pub room : new.room ≡ old.room
  pub width : new.width ≡ old.width

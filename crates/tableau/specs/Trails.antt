-- Trails: exchanges in their order, each good in its turn.
use Rattle.std.specs.Prelude.{◌≡◌, List, [], ◌∷◌}
use Rattle.tableau.specs.Programs.{Given}
use Rattle.tableau.specs.Tableaux.{Tableau, IsStart}
use Rattle.tableau.specs.Exchanges.{IsGood, IsResult}
use Rattle.tableau.specs.declared.exchange.Exchange.{Exchange}

-- the exchanges of the trail, each good in its turn, lead from t to u
abbrev pub Leads : Tableau → List Exchange → Tableau → Type 0
Leads t [] u = t ≡ u
Leads t (x ∷ trail) u = (next : Tableau) × (IsGood t x) × (IsResult t x next) × Leads next trail u

-- t is the tableau after the trail from the start
pub record IsAfter (g : Given) (trail : List Exchange) (t : Tableau) : Type 0 where
  pub start : Tableau
  pub started : IsStart g start
  pub leads : Leads start trail t

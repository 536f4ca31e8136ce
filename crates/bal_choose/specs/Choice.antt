-- Which regions a partial collection takes, by what is known of each region of objects: all young ones, and of the older ones
-- those with the most garbage in them. A region whose list has overflowed is passed over.
use Rattle.std.specs.Prelude.{◌≡◌, ℕ, ◌-◌, ◌==◌, ◌&&◌, ◌||◌, not, nat_eq, nat_lt, Bool, List, length, map}
use Rattle.std.specs.List.{IsDistinct, filter, list_any}
use Rattle.bal_base.specs.Bits.{IsAscending, is_member}
use Rattle.bal_choose.specs.declared.rows.ChoiceRow.{ChoiceRow}

-- no two rows are of one region
abbrev pub AreOfDistinctRegions : List ChoiceRow → Type 0
AreOfDistinctRegions rows = IsDistinct nat_eq (map (λ (r : ChoiceRow). r.region) rows)

abbrev pub is_young : ChoiceRow → Bool
is_young r = (r.age == 0) && not r.overflowed

-- an older region with words that are thought to be dead
abbrev pub is_wasting : ChoiceRow → Bool
is_wasting r = not (r.age == 0) && not r.overflowed && nat_lt r.estimate r.used

abbrev pub waste : ChoiceRow → ℕ
waste r = r.used - r.estimate

-- the one with more waste goes first, then the one with the lower number
abbrev pub goes_before : ChoiceRow → ChoiceRow → Bool
goes_before p r = nat_lt (waste r) (waste p) || ((waste p == waste r) && nat_lt p.region r.region)

-- fewer than n of the wasting regions go before it
abbrev pub is_among_first : List ChoiceRow → ℕ → ChoiceRow → Bool
is_among_first rows n r = nat_lt (length (filter (λ p. goes_before p r) (filter is_wasting rows))) n

abbrev pub is_chosen : List ChoiceRow → ℕ → ChoiceRow → Bool
is_chosen rows older r = is_young r || (is_wasting r && is_among_first rows older r)

-- the row of this region is chosen
abbrev pub is_taken : List ChoiceRow → ℕ → ℕ → Bool
is_taken rows older q = list_any (λ (r : ChoiceRow). (r.region == q) && is_chosen rows older r) rows

-- the regions that are taken, each once and ascending
pub record IsChoice (rows : List ChoiceRow) (older : ℕ) (regions : List ℕ) : Type 0 where
  pub just : (q : ℕ) → is_member regions q ≡ is_taken rows older q
  pub ascending : IsAscending regions

-- What the checks of an entry, one after the other, say of it.
use Rattle.std.proofs.Common.{◌≡◌, ℕ, ◌<◌, ◌≤◌, List, Option, Some, None, Contains, length, get_or, slice_get, refl, ap, subst, ◌∙◌, inl, inr, arith}
use Rattle.std.specs.Prelude.{MatchOption, unwrap_or}
use Rattle.std.proofs.lemmas.Option.{get_or_from_slice_get}
use Rattle.walk_laws.specs.declared.entry.Entry.{Entry}
use Rattle.walk_laws.specs.Labelling.{label_row}
use Rattle.hub_index.specs.WellFormed.{IsWellFormed}
use Rattle.hub_query.proofs.RowFacts.{row_own}
use Rattle.entry_vias.specs.RowVias.{IsNearer, IsFirstNearer, IsRowVia}
use Rattle.index_audit.specs.Beside.{MayStand, HasPlace, GoesBy}
use Rattle.index_audit.specs.Checks.{MeetAt, IsFirstMeet, IsWalked, IsCoveredAt, IsCovered, IsSoundEntry}
use Rattle.index_audit.specs.Audited.{IsNeedless, GoesAstray, IsSoundAt}
use Rattle.index_audit.proofs.OneEntry.{one_via}
use Rattle.index_audit.proofs.Searched.{nothing}
use Rattle.index_audit.proofs.Sound.{place_of, node_at}

-- what holds of the entry read at a place holds of the one that stands there
pub of_entry : (P : Entry → Type 0) (row whole : List Entry) (k : ℕ) → row ≡ whole → P (get_or row k nothing) → (e : Entry) → slice_get whole k ≡ Some e → P e
of_entry P row whole k same holds e is =
    subst P (ap (λ (r : List Entry). get_or r k nothing) same ∙ get_or_from_slice_get whole k e nothing is) holds

-- two rows meet the other way, too
pub MeetAt-swap : (first second : List Entry) (d q : ℕ) → MeetAt first second d q → MeetAt second first d q
MeetAt-swap first second d q m = record {
  sum = m.sum;
  both = record { before = m.both.after; after = m.both.before; in_first = m.both.in_second; in_second = m.both.in_first; long = omega (arith, m.both.long) };
  short = m.short;
}

-- a row that has a node's hub near enough shares that hub with it
pub covered_by_itself : (at : List ℕ) (rows : List (List Entry)) (h p y d far : ℕ) → IsWellFormed at rows → slice_get at p ≡ Some h → Contains (label_row rows y) (record { pos = p; dist = far }) → far ≤ d → IsCoveredAt rows h y d
covered_by_itself at rows h p y d far well place there near =
    let node = node_at at p h well.ranking place in (
      p,
      record {
        sum = far;
        both = record {
          before = 0;
          after = far;
          in_first = subst (λ q. Contains (label_row rows h) (record { pos = q; dist = 0 })) (place_of at p h well.ranking place) (row_own at rows h well node.0 node.1);
          in_second = there;
          long = omega arith;
        };
        short = near;
      },
    )

module _ (J : ℕ → ℕ → ℕ → Type 0) (at : List ℕ) (rows : List (List Entry)) (v h : ℕ) (e : Entry) (place : slice_get at e.pos ≡ Some h) (walked : IsWalked J rows v h e) (covered : IsCovered J rows v h e) where
  pub sound_of : ((q : ℕ) → q < e.pos → MeetAt (label_row rows v) (label_row rows h) e.dist q → ⊥) → IsSoundEntry J at rows v e
  sound_of none = record {
    hub = h;
    place = place;
    walked = walked;
    covered = covered;
    needed = λ q r. none q r.above (MeetAt-swap (label_row rows h) (label_row rows v) e.dist q r.meet);
  }

  pub needless_of : (q by : ℕ) → q < e.pos → slice_get at q ≡ Some by → IsFirstMeet (label_row rows v) (label_row rows h) e.dist q → IsNeedless J at rows v h by e
  needless_of q by above node first = record {
    place = place;
    walked = walked;
    covered = covered;
    position = q;
    node = node;
    redundant = record { above = above; meet = MeetAt-swap (label_row rows v) (label_row rows h) e.dist q first.here };
    highest = λ r redundant. first.least r (MeetAt-swap (label_row rows h) (label_row rows v) e.dist r redundant.meet);
  }

-- the first neighbour that is nearer, or 0, is the via
pub via_told : (J : ℕ → ℕ → ℕ → Type 0) (rows : List (List Entry)) (v : ℕ) (e : Entry) (nearer : Option ℕ) → MatchOption nearer ((z : ℕ) → IsNearer J rows v e z → ⊥) (λ y. IsFirstNearer J rows v e y) → IsRowVia J rows v e (unwrap_or nearer 0)
via_told J rows v e None none = inr (refl, none)
via_told J rows v e (Some y) first = inl first

-- an entry that passes the checks and goes by its via
pub sound_at : (J : ℕ → ℕ → ℕ → Type 0) (at : List ℕ) (rows : List (List Entry)) (vias : Option (List (List ℕ))) (v k want : ℕ) (e : Entry) → IsSoundEntry J at rows v e → IsRowVia J rows v e want → GoesBy vias v k want → IsSoundAt J at rows vias v k e
sound_at J at rows vias v k want e sound via goes = record { sound = sound; via = λ y is. subst (GoesBy vias v k) (one_via J rows v e want y via is) goes }

-- and one that doesn't go by it
pub astray_of : (J : ℕ → ℕ → ℕ → Type 0) (at : List ℕ) (rows : List (List Entry)) (vias : Option (List (List ℕ))) (v h want k : ℕ) (e : Entry) → slice_get at e.pos ≡ Some h → IsSoundEntry J at rows v e → IsRowVia J rows v e want → (GoesBy vias v k want → ⊥) → GoesAstray J at rows vias v h want k e
astray_of J at rows vias v h want k e place sound wanted other = record { place = place; sound = sound; wanted = wanted; other = other }

-- vias that may stand beside rows have a place for each entry
pub place_beside : (rows : List (List Entry)) (vias : Option (List (List ℕ))) (v k : ℕ) → MayStand rows vias → 1 ≤ v → v ≤ length rows → k < length (label_row rows v) → HasPlace vias v k
place_beside rows None v k stand from_one up_to within = tt
place_beside rows (Some vias) v k stand from_one up_to within = (from_one, omega (arith, stand.size, up_to), omega (arith, (stand.row v from_one up_to).size, within))

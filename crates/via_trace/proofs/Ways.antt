-- The way from a node by vias, as it is gone along.
use Rattle.std.specs.Prelude.{slice_get, Some, reverse}
use Rattle.std.proofs.Common.{◌≡◌, ℕ, ◌-◌, ◌<◌, ◌≤◌, List, [], ◌∷◌, ◌++◌, Contains, length, take, drop, refl, sym, ap, subst, ◌∙◌, append_assoc, arith}
use Rattle.std.proofs.lemmas.List.{take_at, drop_at, take-append-drop, reverse-append, length-append, length-drop, length-reverse, length-take-le}
use Rattle.std.proofs.lemmas.Option.{same_Some, slice_get_within, get_or_from_slice_get}
use Rattle.walk_laws.specs.Labelling.{label_row}
use Rattle.walk_laws.specs.Meet.{IsMeet}
use Rattle.hub_index.specs.WellFormed.{IsWellFormed}
use Rattle.entry_vias.specs.RowVias.{TracedHubIndex}
use Rattle.via_trace.specs.Traces.{entry_at, GoesBy, StepsOn, ComesBy, BreaksAt, MeetBy}
use Rattle.via_trace.proofs.RowFacts.{place_of, contains_at, one_distance, own_at_zero}

module _ (index : TracedHubIndex) (p : ℕ) where
  -- one step more
  ComesBy-step : (nodes : List ℕ) (x d y e z f : ℕ) → ComesBy index p x d nodes y e → StepsOn index p y e z f → ComesBy index p x d (nodes ++ z ∷ []) z f
  ComesBy-step [] x d y e z f comes s =
      (f, subst (λ i. StepsOn index p i d z f) (sym comes.0) (subst (λ g. StepsOn index p y g z f) (sym comes.1) s), (refl, refl))
  ComesBy-step (w ∷ nodes) x d y e z f comes s = (comes.0, comes.1, ComesBy-step nodes w comes.0 y e z f comes.2 s)

  -- the nodes so far, after those of `front`, from u to x, whose entry has distance d and via y
  pub record HasCome (u far : ℕ) (front nodes : List ℕ) (x d y : ℕ) : Type 0 where
    pub way : List ℕ
    pub comes : ComesBy index p u far way x d
    pub pushed : nodes ≡ front ++ u ∷ way
    pub goes : GoesBy index p x d y
    pub from_one : 1 ≤ x
    pub up_to_n : x ≤ length index.order

  pub HasCome-start : (u far y : ℕ) (front nodes : List ℕ) → nodes ≡ front ++ u ∷ [] → GoesBy index p u far y → 1 ≤ u → u ≤ length index.order → HasCome u far front nodes u far y
  HasCome-start u far y front nodes is goes from_one up_to_n = record { way = []; comes = (refl, refl); pushed = is; goes = goes; from_one = from_one; up_to_n = up_to_n }

  -- what a way says of its node is in the row
  pub GoesBy-there : (x d y : ℕ) → GoesBy index p x d y → Contains (label_row index.rows x) (entry_at p d)
  GoesBy-there x d y goes = contains_at (label_row index.rows x) goes.place (entry_at p d) goes.entry

  pub HasCome-step : (u far : ℕ) (front nodes more : List ℕ) (x d y e z : ℕ) → HasCome u far front nodes x d y → more ≡ nodes ++ y ∷ [] → GoesBy index p y e z → e < d → 1 ≤ y → y ≤ length index.order → HasCome u far front more y e z
  HasCome-step u far front nodes more x d y e z was is goes nearer from_one up_to_n = record {
    way = was.way ++ y ∷ [];
    comes = ComesBy-step was.way u far x d y e was.comes (record { goes = was.goes; there = GoesBy-there y e z goes; nearer = nearer });
    pushed = is ∙ ap (λ (l : List ℕ). l ++ y ∷ []) was.pushed ∙ append_assoc front (u ∷ was.way) (y ∷ []);
    goes = goes;
    from_one = from_one;
    up_to_n = up_to_n;
  }

  -- at the distance 0 it has come to the hub
  pub HasCome-end : (u far : ℕ) (front nodes : List ℕ) (x d y hub : ℕ) → IsWellFormed index.order index.rows → (was : HasCome u far front nodes x d y) → d ≡ 0 → slice_get index.order p ≡ Some hub → ComesBy index p u far was.way hub 0
  HasCome-end u far front nodes x d y hub well was none place =
      let there : Contains (label_row index.rows x) (entry_at p 0) = subst (λ e. Contains (label_row index.rows x) (entry_at p e)) none (GoesBy-there x d y was.goes) in
      let same : x ≡ hub = same_Some x hub (sym (own_at_zero index well x was.from_one was.up_to_n p there) ∙ place) in
      subst (λ z. ComesBy index p u far was.way z 0) same (subst (ComesBy index p u far was.way x) none was.comes)

  -- the same of whatever distance the row of u has there
  pub HasCome-any : (u far d : ℕ) (front nodes : List ℕ) (x e y : ℕ) → IsWellFormed index.order index.rows → 1 ≤ u → u ≤ length index.order → Contains (label_row index.rows u) (entry_at p far) → Contains (label_row index.rows u) (entry_at p d) → HasCome u far front nodes x e y → HasCome u d front nodes x e y
  HasCome-any u far d front nodes x e y well from_one up_to_n first there was =
      let same : far ≡ d = one_distance index well u from_one up_to_n p far d first there in
      subst (λ f. HasCome u f front nodes x e y) same was

  -- where no step leads on it breaks
  pub HasCome-breaks : (u far : ℕ) (front nodes : List ℕ) (x d y : ℕ) → HasCome u far front nodes x d y → 1 ≤ d → ((e : ℕ) → Contains (label_row index.rows y) (entry_at p e) → e < d → ⊥) → BreaksAt index p u far x
  HasCome-breaks u far front nodes x d y was some none = record {
    nodes = was.way;
    rest = d;
    comes = was.comes;
    broken = record { far = some; via = y; goes = was.goes; none = λ e s. none e s.there s.nearer };
  }

-- where two rows meet, both have the hub's position
pub meet_by : (index : TracedHubIndex) (u v hub d p : ℕ) → IsWellFormed index.order index.rows → (meet : IsMeet index.order index.rows u v (Some (d, hub))) → slice_get index.order p ≡ Some hub → MeetBy index u v hub p meet.2.sum.before meet.2.sum.after
meet_by index u v hub d p well meet place =
    let sum = meet.2.sum in
    let same : meet.0 ≡ p = sym (place_of index.order meet.0 hub well.ranking meet.1) ∙ place_of index.order p hub well.ranking place in
    record {
      meet = subst (λ e. IsMeet index.order index.rows u v (Some (e, hub))) (sym sum.long) meet;
      place = place;
      from_u = subst (λ q. Contains (label_row index.rows u) (entry_at q sum.before)) same sum.in_first;
      from_v = subst (λ q. Contains (label_row index.rows v) (entry_at q sum.after)) same sum.in_second;
    }

-- the hub of a meet is a node
pub hub_is_node : (index : TracedHubIndex) (u v hub d : ℕ) → IsWellFormed index.order index.rows → IsMeet index.order index.rows u v (Some (d, hub)) → (1 ≤ hub) × (hub ≤ length index.order)
hub_is_node index u v hub d well meet =
    subst (λ y. (1 ≤ y) × (y ≤ length index.order)) (get_or_from_slice_get index.order meet.0 hub 0 meet.1) (well.ranking.node meet.0 0 (slice_get_within index.order meet.0 hub meet.1))

-- all of a list but its last element, backwards, is the list backwards but its first
turned_front : (l : List ℕ) → 1 ≤ length l → reverse (take (length l - 1) l) ≡ drop 1 (reverse l)
turned_front l some =
    let k = length l - 1 in
    let last : length (reverse (drop k l)) ≡ 1 = omega (arith, length-reverse (drop k l), length-drop k l, some) in
    let whole : reverse l ≡ reverse (drop k l) ++ reverse (take k l) = ap (λ (xs : List ℕ). reverse xs) (sym (take-append-drop k l)) ∙ reverse-append (take k l) (drop k l) in
    sym (ap (λ (xs : List ℕ). drop 1 xs) whole ∙ drop_at (reverse (drop k l)) (reverse (take k l)) 1 last)

-- the nodes of both ways, the second backwards and without its end
pub both_ways : (u v : ℕ) (forth back first second short whole : List ℕ) (middle : ℕ) → first ≡ u ∷ forth → second ≡ first ++ v ∷ back → middle ≡ length first → short ≡ take (length second - 1) second → whole ≡ take middle short ++ reverse (drop middle short) → whole ≡ (u ∷ forth) ++ drop 1 (reverse (v ∷ back))
both_ways u v forth back first second short whole middle is also cut shorter turned =
    let l = v ∷ back in
    let k = length l - 1 in
    let front = take k l in
    let parts : second ≡ (first ++ front) ++ drop k l = also ∙ ap (λ (xs : List ℕ). first ++ xs) (sym (take-append-drop k l)) ∙ sym (append_assoc first front (drop k l)) in
    let long : length (first ++ front) ≡ length second - 1 = omega (arith, length-append first front, length-append first l, ap length also, length-take-le k l (omega arith)) in
    let short_is : short ≡ first ++ front = shorter ∙ ap (take (length second - 1)) parts ∙ take_at (first ++ front) (drop k l) (length second - 1) long in
    let before : take middle short ≡ first = ap (take middle) short_is ∙ take_at first front middle (sym cut) in
    let after : drop middle short ≡ front = ap (drop middle) short_is ∙ drop_at first front middle (sym cut) in
    turned ∙ ap (λ (xs : List ℕ). xs ++ reverse (drop middle short)) (before ∙ is) ∙ ap (λ (xs : List ℕ). (u ∷ forth) ++ xs) (ap (λ (xs : List ℕ). reverse xs) after ∙ turned_front l (omega arith))

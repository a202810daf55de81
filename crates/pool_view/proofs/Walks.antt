-- A walk along the chain of a node that a visit found, as far as it has come.
use Rattle.std.proofs.Common.{◌≡◌, ℕ, ◌+◌, ◌<◌, ◌≤◌, Option, List, [], ◌∷◌, ◌++◌, All, length, refl, sym, ap, subst, ◌∙◌, arith}
use Rattle.std.specs.Prelude.{Some, None}
use Rattle.std.proofs.lemmas.List.{append_assoc, append-nil, length-append}
use Rattle.std.proofs.lemmas.List.Elements.{All-head, All-tail}
use Rattle.std.proofs.lemmas.Option.{slice_get_within}
use Rattle.walk_laws.specs.declared.entry.Entry.{Entry}
use Rattle.label_pool.specs.declared.rule.Linked.{Linked}
use Rattle.label_pool.specs.Chains.{IsRest, IsNext}
use Rattle.label_pool.specs.Seats.{PoolId, Seated, HasFound, IsMet}
use Rattle.pool_view.specs.Fitting.{Fitting, MayStand, order_of}

-- so many cells of the chain that the visit found were given, of which P holds, and the walk has the others to give
pub record IsWalking (pool : PoolId Fitting) (before : Seated Fitting) (v : ℕ) (seat : Seated Fitting) (at : Option ℕ) (count : ℕ) (P : List Linked → Type 0) : Type 0 where
  pub found : List Linked
  pub visit : HasFound MayStand pool before v found seat
  pub prefix : List Linked
  pub rest : List Linked
  pub parted : found ≡ prefix ++ rest
  pub come : length prefix ≡ count
  pub left : IsRest seat.looks at rest
  pub told : P prefix

module _ (pool : PoolId Fitting) (before : Seated Fitting) (v : ℕ) where
  pub walking-first : (seat : Seated Fitting) (at : Option ℕ) (P : List Linked → Type 0) → (found : List Linked) × HasFound MayStand pool before v found seat × IsRest seat.looks at found → P [] → IsWalking pool before v seat at 0 P
  walking-first seat at P visit told = record { found = visit.0; visit = visit.1; prefix = []; rest = visit.0; parted = refl; come = refl; left = visit.2; told = told }

  module _ (seat after : Seated Fitting) (at next : Option ℕ) (count : ℕ) (P : List Linked → Type 0) (walking : IsWalking pool before v seat at count P) (given : Option Entry) (gives : (rest : List Linked) → IsRest seat.looks at rest → IsNext seat.looks rest given next) (same : after ≡ seat) where
    -- the cell that is given
    pub record IsGiven (e : Entry) : Type 0 where
      pub l : Linked
      pub ls : List Linked
      pub parted : walking.found ≡ walking.prefix ++ l ∷ ls
      pub is : l.entry ≡ e
      pub left : IsRest seat.looks next ls

    pub given-cell : (e : Entry) → given ≡ Some e → IsGiven e
    given-cell e is = by_rest walking.rest walking.parted (gives walking.rest walking.left)
      where
        by_rest : (rest : List Linked) → walking.found ≡ walking.prefix ++ rest → IsNext seat.looks rest given next → IsGiven e
        by_rest [] parted told = let wrong : None ≡ Some e = sym told.0 ∙ is in absurd cc
        by_rest (l ∷ ls) parted told = let both : Some l.entry ≡ Some e = sym told.0 ∙ is in record { l = l; ls = ls; parted = parted; is = cc; left = told.1 }

    pub walking-next : (Q : List Linked → Type 0) (e : Entry) (is : given ≡ Some e) → ((l : Linked) → l.entry ≡ e → P walking.prefix → Q (walking.prefix ++ l ∷ [])) → IsWalking pool before v after next (count + 1) Q
    walking-next Q e is further =
        let g = given-cell e is in
        record {
          found = walking.found;
          visit = subst (HasFound MayStand pool before v walking.found) (sym same) walking.visit;
          prefix = walking.prefix ++ g.l ∷ [];
          rest = g.ls;
          parted = g.parted ∙ sym (append_assoc walking.prefix (g.l ∷ []) g.ls);
          come = length-append walking.prefix (g.l ∷ []) ∙ ap (λ k. k + 1) walking.come;
          left = subst (λ (s : Seated Fitting). IsRest s.looks next g.ls) (sym same) g.left;
          told = further g.l g.is walking.told;
        }

    -- nothing is given at the end: then the whole chain was
    pub walking-end : given ≡ None → (found : List Linked) × HasFound MayStand pool before v found after × P found
    walking-end is = by_rest walking.rest walking.parted (gives walking.rest walking.left)
      where
        by_rest : (rest : List Linked) → walking.found ≡ walking.prefix ++ rest → IsNext seat.looks rest given next → (found : List Linked) × HasFound MayStand pool before v found after × P found
        by_rest [] parted told = (walking.found, subst (HasFound MayStand pool before v walking.found) (sym same) walking.visit, subst P (sym (parted ∙ append-nil walking.prefix)) walking.told)
        by_rest (l ∷ ls) parted told = let wrong : Some l.entry ≡ None = sym told.0 ∙ is in absurd cc

  -- a walk gives no more cells than the pool has
  pub walking-few : (seat : Seated Fitting) (at : Option ℕ) (count : ℕ) (P : List Linked → Type 0) → IsWalking pool before v seat at count P → count ≤ pool.cells
  walking-few seat at count P walking = let a = ap length walking.parted ∙ length-append walking.prefix walking.rest in omega (arith, a, walking.come, walking.visit.most)

-- what all cells of a chain meet, that does which is given
pub met_at : (P : Linked → Type 0) (prefix : List Linked) (l : Linked) (ls : List Linked) → All P (prefix ++ l ∷ ls) → P l
met_at P [] l ls all = All-head P l ls all
met_at P (m ∷ prefix) l ls all = met_at P prefix l ls (All-tail P m (prefix ++ l ∷ ls) all)

-- a position of an entry that may stand is one of the ranking
pub met-within : (of : Option Fitting) (v : ℕ) (e : Entry) → IsMet MayStand of v e → e.pos < length (order_of of)
met-within None v e met = absurd met
met-within (Some of) v e met = slice_get_within of.order e.pos met.walk.0 met.walk.1

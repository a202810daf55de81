-- What a pair is answered: there is one answer, and the rows of the canonical hub labelling give it.
use Rattle.std.proofs.Common.{◌≡◌, ◌↔◌, ℕ, ◌≤◌, ◌<◌, List, length, Some, None, Option, All, refl, subst, sym, ap, ◌∙◌, inl, inr, nat_cmp, Ordering, Less, Equal, Greater}
use Rattle.std.specs.Cmp.Lexicographic.{slice_cmp}
use Rattle.std.specs.FinMap.{slice_cmp-IsAntisymmetric, nat_cmp-IsAntisymmetric}
use Rattle.std.specs.Ordering.{ordering_reverse}
use Rattle.std.proofs.lemmas.Cmp.{nat_list_cmp_total}
use Rattle.walk_laws.specs.declared.graph.Edge.{Edge}
use Rattle.walk_laws.specs.declared.entry.Entry.{Entry}
use Rattle.walk_laws.specs.Joined.{Joined}
use Rattle.walk_laws.specs.Ranking.{IsRanking, position_of}
use Rattle.walk_laws.specs.Labelling.{IsChl, label_row}
use Rattle.walk_laws.specs.Answer.{IsAnswer, IsFirstShortest, IsWalkAnswer}
use Rattle.walk_laws.specs.Meet.{IsMeet}
use Rattle.walk_laws.proofs.Positions.{position-lt, slice_get-at_position}
use Rattle.walk_laws.proofs.JoinedEdges.{Joined-sym}
use Rattle.walk_laws.proofs.LeastWalks.{IsLeast-unique}
use Rattle.walk_laws.proofs.Tops.{IsTop-node, IsTop-unique}
use Rattle.walk_laws.proofs.JoinedDecisions.{IsLeast-or_apart, IsTop-joined_exists}
use Rattle.walk_laws.proofs.CommonHubs.{HasSum-walk, IsLeastSum-top, IsMeet-unique}

module _ (J : ℕ → ℕ → ℕ → Type 0) where
  -- a pair has one answer at most
  pub IsAnswer-unique : (at : List ℕ) (u v : ℕ) → position_of at u < length at → (a b : Option (ℕ × ℕ)) → IsAnswer J at u v a → IsAnswer J at u v b → a ≡ b
  IsAnswer-unique at u v node None None first second = refl
  IsAnswer-unique at u v node None (Some b) first second = absurd (first b.0 second.0.walk)
  IsAnswer-unique at u v node (Some a) None first second = absurd (second a.0 first.0.walk)
  IsAnswer-unique at u v node (Some a) (Some b) first second =
      let same_length = IsLeast-unique J u v a.0 b.0 first.0 second.0 in
      let same_node = IsTop-unique J at u v a.1 b.1 node first.1 second.1 in
      ap (λ d. Some (d, a.1)) same_length ∙ ap (λ x. Some (b.0, x)) same_node

  neither_first : (xs ys : List ℕ) → (slice_cmp nat_cmp xs ys ≡ Less → ⊥) → (slice_cmp nat_cmp ys xs ≡ Less → ⊥) → (o : Ordering) → slice_cmp nat_cmp xs ys ≡ o → xs ≡ ys
  neither_first xs ys not_before not_after Less is = absurd (not_before is)
  neither_first xs ys not_before not_after Equal is = slice_cmp-IsAntisymmetric nat_cmp-IsAntisymmetric xs ys is
  neither_first xs ys not_before not_after Greater is = absurd (not_after (nat_list_cmp_total.antisymm ys xs ∙ ap ordering_reverse is))

  first_shortest_before : (u v d e : ℕ) (xs ys : List ℕ) → d ≡ e → IsFirstShortest J u v d xs → IsFirstShortest J u v e ys → slice_cmp nat_cmp ys xs ≡ Less → ⊥
  first_shortest_before u v d e xs ys same a b before =
      a.first b.steps b.walk (b.long ∙ sym same) (subst (λ l. slice_cmp nat_cmp l xs ≡ Less) (sym b.passes) before)

  pub IsFirstShortest-unique : (u v d e : ℕ) (xs ys : List ℕ) → IsFirstShortest J u v d xs → IsFirstShortest J u v e ys → (d ≡ e) × (xs ≡ ys)
  IsFirstShortest-unique u v d e xs ys a b =
      let same = IsLeast-unique J u v d e a.least b.least in
      (same, neither_first xs ys (first_shortest_before u v e d ys xs (sym same) b a) (first_shortest_before u v d e xs ys same a b) (slice_cmp nat_cmp xs ys) refl)

  pub IsWalkAnswer-unique : (u v : ℕ) (a b : Option (ℕ × List ℕ)) → IsWalkAnswer J u v a → IsWalkAnswer J u v b → a ≡ b
  IsWalkAnswer-unique u v None None first second = refl
  IsWalkAnswer-unique u v None (Some b) first second = absurd (first b.0 second.least.walk)
  IsWalkAnswer-unique u v (Some a) None first second = absurd (second a.0 first.least.walk)
  IsWalkAnswer-unique u v (Some a) (Some b) first second =
      let same = IsFirstShortest-unique u v a.0 b.0 a.1 b.1 first second in
      ap (λ d. Some (d, a.1)) same.0 ∙ ap (λ xs. Some (b.0, xs)) same.1

module _ (edges : List Edge) (weights : All (λ e. 1 ≤ e.w) edges) (at : List ℕ) (ranking : IsRanking at) (u v : ℕ) (from_one : 1 ≤ u) (up_to_n : u ≤ length at) where
  -- and it has one
  pub IsAnswer-exists : (answer : Option (ℕ × ℕ)) × IsAnswer (Joined edges) at u v answer
  IsAnswer-exists =
      elim (IsLeast-or_apart edges weights u v) [
        | inr apart ↦ (None, apart)
        | inl least ↦
            let top = IsTop-joined_exists edges weights at ranking u v least.0 from_one up_to_n least.1 in
            (Some (least.0, top.0), (least.1, top.1))
      ]

  module _ (other_from_one : 1 ≤ v) (other_up_to_n : v ≤ length at) (rows : List (List Entry)) (chl : IsChl (Joined edges) at rows) where
    node : position_of at u < length at
    node = position-lt at u ranking from_one up_to_n

    -- the answer of a pair is what its rows say
    IsMeet-from_answer : (answer : Option (ℕ × ℕ)) → IsAnswer (Joined edges) at u v answer → IsMeet at rows u v answer
    IsMeet-from_answer None apart =
        λ p d s. apart d (HasSum-walk (Joined edges) (Joined-sym edges) at u v (label_row rows u) (label_row rows v) (chl.row u from_one up_to_n) (chl.row v other_from_one other_up_to_n) p d s)
    IsMeet-from_answer (Some a) known =
        let top_node = IsTop-node (Joined edges) at u v a.1 node known.1 in
        (position_of at a.1, slice_get-at_position at a.1 top_node, IsLeastSum-top (Joined edges) (Joined-sym edges) at u v (label_row rows u) (label_row rows v) (chl.row u from_one up_to_n) (chl.row v other_from_one other_up_to_n) ranking a.1 a.0 top_node known.1 known.0)

    pub IsMeet-IsAnswer : (answer : Option (ℕ × ℕ)) → IsMeet at rows u v answer ↔ IsAnswer (Joined edges) at u v answer
    IsMeet-IsAnswer answer =
        (λ meet. let known = IsAnswer-exists in subst (IsAnswer (Joined edges) at u v) (IsMeet-unique at rows u v known.0 answer (IsMeet-from_answer known.0 known.1) meet) known.1, IsMeet-from_answer answer)

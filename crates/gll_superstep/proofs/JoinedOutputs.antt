-- What several workers have handed in.
use Rattle.std.proofs.Common.{◌≡◌, ℕ, ◌+◌, List, [], ◌∷◌, ◌++◌, sym, ap, ◌∙◌, arith}
use Rattle.std.proofs.lemmas.List.{append-nil, length_push}
use Rattle.std.proofs.lemmas.List.Concat.{flat_map-append}
use Rattle.std.proofs.lemmas.List.Elements.{All-nil, All-push}
use Rattle.walk_laws.specs.declared.graph.Edge.{Edge}
use Rattle.root_claims.specs.Seats.{Claimed, ClaimsId, IsSeatAt, from}
use Rattle.gll_table.specs.Outputs.{IsOutput, Output, all_roots}
use Rattle.gll_superstep.specs.Workers.{AreJoined, IsGrownWith}

-- a seat is at the claims that it is of
pub is_at : (claims here : ClaimsId) (first : ℕ) (seat : Claimed) → seat.claims ≡ from first claims → here ≡ claims → IsSeatAt here seat
is_at claims here first seat is same = (
  ap (λ (c : ClaimsId). c.table) is ∙ ap (λ (c : ClaimsId). c.table) (sym same),
  ap (λ (c : ClaimsId). c.n) is ∙ ap (λ (c : ClaimsId). c.n) (sym same),
  ap (λ (c : ClaimsId). c.seats) is ∙ ap (λ (c : ClaimsId). c.seats) (sym same),
)

-- and stays there
pub stays_at : (here : ClaimsId) (before after : Claimed) → after.claims ≡ before.claims → IsSeatAt here before → IsSeatAt here after
stays_at here before after same at = (
  ap (λ (c : ClaimsId). c.table) same ∙ at.0,
  ap (λ (c : ClaimsId). c.n) same ∙ at.1,
  ap (λ (c : ClaimsId). c.seats) same ∙ at.2,
)

module _ (edges : List Edge) (at : List ℕ) (shift : ℕ) (claims : ClaimsId) where
  pub AreJoined-one : (first : ℕ) (seat : Claimed) (output : Output) → IsGrownWith edges at shift claims first seat output → AreJoined edges at shift claims first seat (output ∷ [])
  AreJoined-one first seat output grown = record {
    seat_is = grown.seat_is;
    count = omega (arith, grown.left);
    got = grown.got ∙ sym (append-nil output.roots);
    over = All-push (λ (o : Output). o.first ≡ first) [] output (All-nil (λ (o : Output). o.first ≡ first)) grown.first_is;
    are = All-push (IsOutput edges at shift) [] output (All-nil (IsOutput edges at shift)) grown.is;
  }

  -- one more is of the same superstep, since its seat is alike
  pub AreJoined-push : (first there : ℕ) (seat other after : Claimed) (outputs : List Output) (output : Output) → AreJoined edges at shift claims first seat outputs → IsGrownWith edges at shift claims there other output
      → other.claims ≡ seat.claims → after.claims ≡ seat.claims → after.left ≡ seat.left + other.left + 1 → after.got ≡ seat.got ++ other.got → AreJoined edges at shift claims first after (outputs ++ output ∷ [])
  AreJoined-push first there seat other after outputs output joined grown alike stays left gets =
      let same : there ≡ first = ap (λ (c : ClaimsId). c.first) (sym grown.seat_is ∙ alike ∙ joined.seat_is) in
      record {
        seat_is = stays ∙ joined.seat_is;
        count = omega (arith, left, grown.left, joined.count, length_push outputs output);
        got =
            gets
            ∙ ap (λ xs. xs ++ other.got) joined.got
            ∙ ap (λ xs. all_roots outputs ++ xs) (grown.got ∙ sym (append-nil output.roots))
            ∙ sym (flat_map-append (λ (o : Output). o.roots) outputs (output ∷ []));
        over = All-push (λ (o : Output). o.first ≡ first) outputs output joined.over (grown.first_is ∙ same);
        are = All-push (IsOutput edges at shift) outputs output joined.are grown.is;
      }

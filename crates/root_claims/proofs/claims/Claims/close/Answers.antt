use Rattle.std.proofs.Common.{◌≡◌, ℕ, ◌+◌, ◌<◌, ◌≤◌, List, IsPermutation, min, sym, ◌∙◌, ap, subst, arith}
use Rattle.table_seats.specs.Numbers.{numbers}
use Rattle.root_claims.proofs.Allowed.{closes}
use Rattle.root_claims.proofs.claims.Claims.close.Goals as goal

pub returns : goal.returns
returns c =
    let i = c.seat.invariant in
    let about = c.self.inside.table.shared.key in
    let of = c.seat.inside.seat.me.0.knows.of in
    let got = ap (λ d. d.got) c.seat.view_is in
    let over = ap (λ d. d.over) c.seat.view_is in
    let first = ap (λ d. d.claims.first) c.seat.view_is in
    let n : of.n ≡ c.args.self.n = ap (λ d. d.claims.n) c.seat.view_is ∙ c.requires.seat.1 in
    let whole = ap (λ d. d.n) c.self.view_is in
    let key : about.n ≡ c.self.inside.n = c.self.invariant.2 in
    let left = ap (λ d. d.left + 1) c.seat.view_is ∙ c.requires.last ∙ sym (ap (λ d. d.seats) c.self.view_is) in
    let last : c.seat.inside.seat.me.0.seats ≡ about.seats = i.0 ∙ left in
    let h = closes about _ _ _ _ c.word-next.result (omega (arith, i.0)) last c.close_with-closed.ensures.values.2 c.word-next.ensures in
    let lesser : min c.word-next.result of.n ≡ c.min.result = omega arith in
    let begun : of.first ≤ min c.word-next.result of.n = h.0 in
    record {
      within = omega arith;
      drawn = subst (λ (t : List ℕ × ℕ × ℕ). IsPermutation t.0 (numbers t.1 t.2)) (λ j. (got j, first j, lesser j)) h.1;
      over = λ ends. let above : of.n < c.word-next.result = h.2 (over ∙ ends) in omega arith;
    }

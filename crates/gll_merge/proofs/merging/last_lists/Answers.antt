use Rattle.std.proofs.Common.{◌≡◌, ℕ, ◌+◌, ◌<◌, List, ◌++◌, All, Global, Vec, get_or, length, map, take, vec_len, sym, ap, ◌∙◌, arith}
use Rattle.std.specs.Prelude.{slice_get}
use Rattle.std.specs.Option.{option_to_list}
use Rattle.std.proofs.lemmas.Grind.{drop_more_same}
use Rattle.std.proofs.lemmas.List.{append-nil, drop-set-lt, take_all}
use Rattle.label_clean.specs.declared.runs.RunList.{RunList}
use Rattle.gll_merge.specs.Merging.{lists_at}
use Rattle.gll_merge.proofs.LastParts.{last_taken, one_cut, one_taken, same_there}
use Rattle.gll_merge.proofs.merging.last_lists.Goals as goal
use Rattle.gll_merge.proofs.merging.last_lists.Goals.{in-Some+in_ok-push, in_default}

abbrev lists_of : Vec RunList Global → List RunList
lists_of d = d.items

pub loop-k-preserved : goal.loop-k-preserved
loop-k-preserved c =
    let k = c.loop-k.k in
    let old = c.args.parts.now.items in
    let now = c.loop-k.parts.items in
    let so_far = c.loop-k.lists.items in
    let d = c.index_mut.result.now in
    let left = c.pop.new.self in
    let taken = c.pop.result in
    let within : c.loop-k.k < length c.args.parts.now.items = omega arith in
    let is : c.index_mut.result.now ≡ get_or c.args.parts.now.items c.loop-k.k c.index_mut.result.now = c.index_mut.ensures.value ∙ same_there now old k d c.loop-k.invariant.later in
    let pushed : c.match-pop.lists.items ≡ c.loop-k.lists.items ++ option_to_list c.pop.result = elim c.match-pop.branch [
      | in-Some+in_ok-push w ↦ ap lists_of w.lists-is ∙ w.in_ok-push.ensures.items ∙ ap (λ r. so_far ++ option_to_list r) (sym w.in-Some.is)
      | in_default w ↦ ap lists_of w.lists-is ∙ sym (append-nil so_far) ∙ ap (λ r. so_far ++ option_to_list r) (sym w.in_default.is)
    ] in
    let last = λ (number : ℕ) (long : All (λ d. length (lists_of d) ≡ number + 1) c.args.parts.now.items).
    last_taken d.items left.items taken number (vec_len d) (ap (λ v. length (lists_of v)) is ∙ long k d within) (omega arith) c.pop.ensures.items c.pop.ensures.rest in
    record {
      size = c.loop-k.invariant.size;
      lists = λ number long. pushed ∙ one_taken lists_of old number k d within so_far taken (c.loop-k.invariant.lists number long) ((last number long).1 ∙ ap (λ v. slice_get (lists_of v) number) is);
      left = λ number long. one_cut lists_of old number k d within now left (omega arith) ((last number long).0 ∙ ap (λ v. take number (lists_of v)) is) (c.loop-k.invariant.left number long);
      later = drop-set-lt (k + 1) now k left (omega arith) ∙ drop_more_same now old k c.loop-k.invariant.later;
    }

pub returns-clause-lists : goal.returns-clause-lists
returns-clause-lists c number long = c.loop-k.invariant.lists number long ∙ ap (λ parts. lists_at (map lists_of parts) number) (take_all c.loop-k.k c.args.parts.now.items (omega arith))

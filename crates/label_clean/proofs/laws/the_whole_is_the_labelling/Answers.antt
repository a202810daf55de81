use Rattle.std.proofs.lemmas.Option.{slice_get_within}
use Rattle.label_clean.proofs.laws.the_whole_is_the_labelling.Goals as goal

pub returns : goal.returns
returns c edges at rows = (
  λ below. record {
    size = below.size;
    row = λ v from_one up_to_n. let row = below.row v from_one up_to_n in record {
      rising = row.rising;
      each = λ e. (λ here. ((row.each e).0 here).0, λ hub. (row.each e).1 (hub, slice_get_within at e.pos hub.0 hub.1));
    };
  },
  λ chl. record {
    size = chl.size;
    row = λ v from_one up_to_n. let row = chl.row v from_one up_to_n in record {
      rising = row.rising;
      each = λ e. (λ here. let hub = (row.each e).0 here in (hub, slice_get_within at e.pos hub.0 hub.1), λ hub. (row.each e).1 hub.0);
    };
  },
)

use Rattle.index_file.proofs.RowsWithVias.{few_vias}
use Rattle.index_file.proofs.field.distance_accepted.Goals as goal

pub after_entry-requires-clause-few : goal.after_entry-requires-clause-few
after_entry-requires-clause-few c = few_vias c.args.done c.args.part c.requires.reading

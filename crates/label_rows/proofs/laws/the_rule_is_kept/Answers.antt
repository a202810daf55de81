use Rattle.std.proofs.Common.{refl}
use Rattle.label_rows.proofs.Begins.{begins}
use Rattle.label_rows.proofs.FreeRows.{free_from, all_put}
use Rattle.label_rows.proofs.Takes.{takes}
use Rattle.label_rows.proofs.Gives.{gives}
use Rattle.label_rows.proofs.Splits.{splits}
use Rattle.label_rows.proofs.Joins.{joins}
use Rattle.label_rows.proofs.laws.the_rule_is_kept.Goals as goal

pub returns : goal.returns
returns c = record {
  first = λ about some_seat few. begins about _ refl some_seat few;
  take = λ about s id me v lawful seat empty node zero.
      let row = lawful.rows v node in
      let free = free_from about s v row.0 row.1 zero in
      (row.0, free.at_home, takes about s id me seat.0 lawful seat.1 v node row.0 row.1 empty free);
  give = λ about s id me v found put lawful seat node holds fits. gives about s id me seat.0 lawful seat.1 v node found put holds fits;
  split = λ about s id me give lawful seat enough. splits about s id me seat.0 lawful give enough;
  join = λ about s id other me them lawful seat too apart empty empty_too. joins about s id me seat.0 other them apart too.0 empty empty_too lawful seat.1;
  free = λ about s v lawful node zero.
      let row = lawful.rows v node in
      (row.0, (free_from about s v row.0 row.1 zero).at_home, row.1.fit);
  lost = λ about s v lawful node zero.
      let row = lawful.rows v node in
      (row.0, (free_from about s v row.0 row.1 zero).at_home, all_put about s v row.0 row.1);
}

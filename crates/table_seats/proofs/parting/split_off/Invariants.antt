use Rattle.table_seats.proofs.parting.split_off.Given as goal

abbrev pub ghosts-part : goal.ghosts-part
ghosts-part g a = record { give = a.give }

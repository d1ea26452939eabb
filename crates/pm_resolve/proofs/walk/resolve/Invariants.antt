use Rattle.pm_resolve.proofs.walk.resolve.Given as goal

abbrev pub ghosts-resolve_with : goal.ghosts-resolve_with
ghosts-resolve_with a = record { name = a.blank.name; parts = a.blank.parts }

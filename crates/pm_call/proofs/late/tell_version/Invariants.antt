use Rattle.pm_call.proofs.late.tell_version.Given as goal

abbrev pub ghosts-version_text : goal.ghosts-version_text
ghosts-version_text a = record { name = a.blank.name; parts = a.blank.parts }

use Rattle.pm_versions.proofs.late.LateRoom.enter.Given as goal

abbrev pub ghosts-document_at : goal.ghosts-document_at
ghosts-document_at g a = record { name = a.blank.name; parts = a.blank.parts }

-- An entry as it is read, without where its name lies in memory.
use Rattle.pm_head.specs.declared.clients.ClientEntry.{ClientEntry}
use Rattle.pm_head.specs.declared.clients.Entry.{Entry}

abbrev pub entry_view : Entry → ClientEntry
entry_view e = record { name = e.name.now; raw = e.raw; late = e.late }

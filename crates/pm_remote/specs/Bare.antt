-- A client that keeps no message and no answer.
use Rattle.std.specs.Prelude.{◌≡◌, []}
use Rattle.pm_client.specs.declared.client.Client.{Client}

abbrev pub IsBare : {Rules Doc Reason C : Type 0} → Client C Rules Doc Reason → Type 0
IsBare c = (c.messages ≡ []) × (c.answers ≡ [])

use Rattle.pm_client.proofs.client.Client.take_turn.Goals as goal

pub maps_over-requires : goal.maps_over-requires
maps_over-requires g c = rw (c.as_slice.ensures, c.in_ok-added.ensures, c.into_vec.ensures) c.requires.maps

-- The worked cases, computed.
use Rattle.std.proofs.Common.{refl}
use Rattle.model.specs.Calls.{settled, setting_refusal, too_many, started, tick_refusal}
use Rattle.model.specs.Settings.{pattern_at, vertices_from, lane_vertices, vertices_below, vertices, slots_from, open_slots, all_slots}
use Rattle.run_laws.specs.Cases.{CasesHold}

pub cases_hold : CasesHold
unfolding settled setting_refusal too_many started tick_refusal pattern_at vertices_from lane_vertices vertices_below vertices slots_from open_slots all_slots
cases_hold = (refl, (refl, (refl, (refl, (refl, (refl, (refl, (refl, (refl, (refl, (refl, (refl, (refl, (refl, (refl, tt)))))))))))))))

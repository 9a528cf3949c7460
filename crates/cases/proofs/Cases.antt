-- The worked cases, computed.
use Rattle.std.proofs.Common.{◌≡◌, ℕ, zero, suc, ◌+◌, ◌*◌, ◌/◌, ◌%◌, ◌<◌, ◌≤◌, List, [], ◌∷◌, get_or, refl, ap, ◌∙◌, arith, lit<}
use Rattle.std.specs.List.{flat_map, AllByRecursion}
use Rattle.interface.specs.Codec.{number_codec, via, both, many, kind_codec, request_codec, event_codec, bool_codec}
use Rattle.held.specs.Entries.{entry_codec}
use Rattle.held.specs.Rows.{rows_codec}
use Rattle.first_come.specs.State as first_come
use Rattle.first_come.specs.State.{first_come_meaning, gaps_codec}
use Rattle.turns.specs.State as turns
use Rattle.layer.specs.Contents.{contents_codec}
use Rattle.layer.specs.Entries as layer
use Rattle.level.specs.Level.{front_codec, level_codes, level_of}
use Rattle.model.specs.Calls.{Call, sets, begins, setting, running, new, settled, too_many, setting_refusal, started, role_refusal, submit_refusal, enqueued, taken_open, submitted, submit_lines, tick_refusal, ticked, outcome}
use Rattle.model.specs.Settings.{Settings, Vertex, blank, role_of, patterns_of, pattern_at, vertices_from, lane_vertices, vertices_below, vertices, slots_from, open_slots, all_slots}
use Rattle.model.specs.Ticks.{through, written, event_line, event_notice, completed, lane_end, rounds, due_tick, leaves, leaving, oldest, without, payload_for, departed, take_line, taken_all, step_events, after_events, after_rounds, departures, after_tick, controller_after, lines, notices}
use Rattle.run_laws.specs.Runs.{Entry, trace, run}
use Rattle.cases.specs.Cases.{entry_marks, ticks_for, five, fakes_alone, one_request, five_vertices, read_after_write, write_after_read, same_bank, five_banks, own_turn, level_100, Holds, CasesHold}
use Rattle.cases.proofs.Listed.{listed, listed_running, listed_state, entry_of, listed_trace, Confined, ticks_listed}

-- ---- what is unfolded

codecs : Unit {0}
unfolding number_codec via both many kind_codec request_codec event_codec bool_codec entry_codec rows_codec gaps_codec first_come.state_codec first_come.state_codes first_come.state_of turns.state_codec turns.state_codes turns.state_of layer.entry_codec contents_codec front_codec level_codes level_of
codecs = tt

calls : Unit {0}
unfolding settled too_many setting_refusal started role_refusal submit_refusal enqueued taken_open submitted submit_lines tick_refusal ticked outcome pattern_at vertices_from lane_vertices vertices_below vertices slots_from open_slots all_slots
calls = tt

a_tick : Unit {0}
unfolding through written event_line event_notice completed lane_end rounds due_tick leaves leaving oldest without payload_for departed take_line taken_all step_events after_events after_rounds departures after_tick controller_after lines notices
a_tick = tt

whole : Unit {0}
unfolding codecs calls a_tick trace run
whole = tt

-- ---- the lane of five vertices, with its tables by lists

abbrev five_set : Settings
five_set = settled blank five

abbrev at_start : List ℕ
at_start = first_come_meaning.start []

-- the setting and begin, and then a trace
abbrev after_begin : List Entry → List Entry
after_begin es = entry_of first_come_meaning (new first_come_meaning []) (sets five) ∷ entry_of first_come_meaning (setting five_set at_start) begins ∷ es

five_begun : (cs : List Call) → run first_come_meaning [] (sets five ∷ begins ∷ cs) ≡ after_begin (trace first_come_meaning (running five_set (started five_set at_start)) cs)
unfolding whole
five_begun cs = refl

near : AllByRecursion (λ (v : Vertex). v.slot < 8) (vertices five_set)
unfolding calls
near = (lit< tt, (lit< tt, (lit< tt, (lit< tt, (lit< tt, tt)))))

bare : (ℓ : ℕ) → 1 ≤ ℓ → (pattern_at five_set ℓ).spots ≡ []
unfolding calls
bare ℓ le = go (ℓ / 8) (ℓ % 8) (omega arith)
  where
    go : (d i : ℕ) → 1 ≤ d * 8 + i → (get_or (patterns_of (role_of five_set d)) i (record { spots = []; edges = []; rest = 0 })).spots ≡ []
    go zero zero h = absurd (omega arith)
    go zero (suc i) h = refl
    go (suc zero) i h = refl
    go (suc (suc zero)) i h = refl
    go (suc (suc (suc zero))) i h = refl
    go (suc (suc (suc (suc zero)))) i h = refl
    go (suc (suc (suc (suc (suc zero))))) i h = refl
    go (suc (suc (suc (suc (suc (suc zero)))))) i h = refl
    go (suc (suc (suc (suc (suc (suc (suc zero))))))) i h = refl
    go (suc (suc (suc (suc (suc (suc (suc (suc d)))))))) i h = refl

begun_confined : Confined (started five_set at_start).tables
unfolding calls
begun_confined = record { stages = λ t le. refl; starts = λ ℓ le. refl; queues = λ d. refl }

abbrev five_listed : ℕ → List Entry
five_listed k = after_begin (listed_trace first_come_meaning (running five_set (started five_set at_start)) (ticks_for k))

five_is_listed : (k : ℕ) → run first_come_meaning [] (sets five ∷ begins ∷ ticks_for k) ≡ five_listed k
five_is_listed k = five_begun (ticks_for k) ∙ ap after_begin (ticks_listed first_come_meaning five_set near bare 96 32 k (started five_set at_start) begun_confined)

five_computed : AllByRecursion (λ r. flat_map entry_marks (five_listed 186) ≡ r.expected) five_vertices
unfolding whole listed listed_running listed_state listed_trace
five_computed = (refl, tt)

-- ---- the cases

fakes_alone_holds : Holds fakes_alone
unfolding whole
fakes_alone_holds = (refl, tt)

one_request_holds : Holds one_request
unfolding whole
one_request_holds = (refl, (refl, tt))

five_vertices_holds : Holds five_vertices
five_vertices_holds = (ap (flat_map entry_marks) (five_is_listed 186) ∙ five_computed.0, tt)

read_after_write_holds : Holds read_after_write
unfolding whole
read_after_write_holds = (refl, tt)

write_after_read_holds : Holds write_after_read
unfolding whole
write_after_read_holds = (refl, tt)

same_bank_holds : Holds same_bank
unfolding whole
same_bank_holds = (refl, (refl, tt))

five_banks_holds : Holds five_banks
unfolding whole
five_banks_holds = (refl, tt)

own_turn_holds : Holds own_turn
unfolding whole
own_turn_holds = (refl, tt)

level_100_holds : Holds level_100
unfolding whole
level_100_holds = (refl, tt)

pub cases_hold : CasesHold
cases_hold = (fakes_alone_holds, (one_request_holds, (five_vertices_holds, (read_after_write_holds, (write_after_read_holds, (same_bank_holds, (five_banks_holds, (own_turn_holds, (level_100_holds, tt)))))))))

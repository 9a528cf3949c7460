use Rattle.std.proofs.Common.{◌≡◌, drop}
use Rattle.store.specs.Pages.{wrote_all}
use Rattle.store.specs.Written.{page_of}
use Rattle.store.specs.Lines.{all_loaded, load_lines}
use Rattle.store.proofs.store.Store.load.Given as goal

abbrev pub invariant-loop-request : goal.invariant-loop-request
invariant-loop-request l =
    (all_loaded (drop l.request-index l.requests) l.self ≡ all_loaded l.requests l.initial.self)
    × (l.lines.buffer.ghost_name ≡ l.initial.lines.buffer.ghost_name)
    × (wrote_all (load_lines l.tick (drop l.request-index l.requests) l.self) (page_of l.lines)
    ≡ wrote_all (load_lines l.tick l.requests l.initial.self) (page_of l.initial.lines))

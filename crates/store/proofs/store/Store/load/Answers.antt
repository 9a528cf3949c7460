use Rattle.std.proofs.Common.{◌+◌, List, get_or, drop, sym, ap, ◌∙◌}
use Rattle.interface.specs.declared.Kind.TheVariants.{Read}
use Rattle.interface.specs.declared.Request.{Request}
use Rattle.model.specs.declared.Line.{Line}
use Rattle.store.specs.Pages.{wrote_all}
use Rattle.store.specs.Written.{page_of}
use Rattle.store.specs.Stores.{StoreView}
use Rattle.store.specs.Lines.{loaded, all_loaded, load_lines}
use Rattle.store.proofs.Loads.{loaded_front, lines_front, loaded_end, lines_end}
use Rattle.store.proofs.store.Store.load.Goals as goal

-- what a read past the end of the list would give
abbrev no_request : Request
no_request = record { slot = 0; domain = 0; bank = 0; kind = Read }

pub loop-request-preserved : goal.loop-request-preserved
loop-request-preserved c =
    let qs = c.args.requests.now in
    let i = c.loop-request.request-index in
    let q = get_or qs i no_request in
    let s = c.loop-request.self in (
      ap (all_loaded (drop (i + 1) qs)) c.load_one.ensures.after
          ∙ sym (loaded_front c.args.tick qs i no_request s c.loop-request-test.true)
          ∙ c.loop-request.invariant.0,
      c.load_one.ensures.lines.0 ∙ c.loop-request.invariant.1,
      ap (λ (x : StoreView). wrote_all (load_lines c.args.tick (drop (i + 1) qs) x) (page_of c.load_one.new.lines)) c.load_one.ensures.after
          ∙ ap (wrote_all (load_lines c.args.tick (drop (i + 1) qs) (loaded q s))) c.load_one.ensures.lines.1
          ∙ ap (λ (ls : List Line). wrote_all ls (page_of c.loop-request.lines)) (sym (lines_front c.args.tick qs i no_request s c.loop-request-test.true))
          ∙ c.loop-request.invariant.2,
    )

pub returns : goal.returns
returns c =
    let qs = c.args.requests.now in
    let i = c.loop-request.request-index in
    let s = c.loop-request.self in
    record {
      after = sym (loaded_end c.args.tick qs i s c.loop-request-test.false) ∙ c.loop-request.invariant.0;
      lines = (
        c.loop-request.invariant.1,
        ap (λ (ls : List Line). wrote_all ls (page_of c.loop-request.lines)) (sym (lines_end c.args.tick qs i s c.loop-request-test.false)) ∙ c.loop-request.invariant.2,
      );
    }

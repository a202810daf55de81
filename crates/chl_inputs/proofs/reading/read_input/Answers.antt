use Rattle.std.proofs.Common.{◌∙◌, subst}
use Rattle.std.specs.Prelude.{Err}
use Rattle.desk_io.specs.Reading.{CountsReadFailure}
use Rattle.chl_inputs.proofs.InputFacts.{came, count_end, count_stays, once_end, read_value, read_fault, read_end}
use Rattle.chl_inputs.proofs.reading.read_input.Goals as goal

pub returns-in-Err-read_all_into-clause-goes : goal.returns-in-Err-read_all_into-clause-goes
returns-in-Err-read_all_into-clause-goes g c =
    let read = c.in-Err-read_all_into.ensures in
    rw c.stop_at_end.ensures (record {
      told = read_end g.R.Reader.refused g.R.Reader.comes_to g.R.Reader.no_memory g.R.Feed.feed_gives g.met.R.Reader.pieces g.met.R.Reader.lasts
          g.K.StopsAt.stop_of g.met.K.StopsAt.want c.args.name.now c.args.reader c.read_all_into.new.feed c.requires _ _ _ c.in-Ok.ensures.found c.in-Err-read_all_into.end
          read.too_long read.refused read.failed read.no_memory read.steady;
      no_file = read.created ∙ c.in-Ok.ensures.created;
      input_count = count_end g.row.R-Value.Denot g.K.StopsAt.stop_of g.met.K.StopsAt.no_call c.in-Err-read_all_into.end _ _ (subst (λ n. CountsReadFailure {T = Unit {0}} (Err c.in-Err-read_all_into.end) n (g.D.Desk.input_faults c.read_all_into.new.desk)) c.in-Ok.ensures.input_count read.input_count);
      output_count = read.output_count ∙ c.in-Ok.ensures.output_count;
      memory_once = once_end g.K.StopsAt.stop_of g.met.K.StopsAt.memory_once c.in-Err-read_all_into.end;
    })

pub returns-in-Ok-finish-clause-came : goal.returns-in-Ok-finish-clause-came
returns-in-Ok-finish-clause-came g c =
    came g.R.Reader.refused g.R.Reader.comes_to g.R.Reader.no_memory g.R.Feed.feed_gives g.met.R.Reader.pieces g.met.R.Reader.lasts _ _ _ _ c.in-Ok-finish.value c.in-Ok-read_all_into.ensures.ok c.in-Ok-finish.ensures.ok

pub returns-in-Ok-finish-clause-goes : goal.returns-in-Ok-finish-clause-goes
returns-in-Ok-finish-clause-goes g c =
    let read = c.in-Ok-read_all_into.ensures in
    record {
      told = read_value g.R.Reader.refused g.R.Reader.comes_to g.R.Reader.no_memory g.R.Feed.feed_gives g.met.R.Reader.pieces g.met.R.Reader.lasts
          g.K.StopsAt.stop_of g.met.K.StopsAt.want c.args.name.now c.args.reader c.read_all_into.new.feed c.requires _ _ _ c.in-Ok.ensures.found c.in-Ok-finish.value read.ok c.in-Ok-finish.ensures.ok;
      no_file = read.created ∙ c.in-Ok.ensures.created;
      input_count = read.input_count ∙ c.in-Ok.ensures.input_count;
      output_count = read.output_count ∙ c.in-Ok.ensures.output_count;
      memory_once = tt;
    }

pub returns-in-Err-finish-clause-goes : goal.returns-in-Err-finish-clause-goes
returns-in-Err-finish-clause-goes g c =
    let read = c.in-Ok-read_all_into.ensures in
    rw c.stop.ensures (record {
      told = read_fault g.R.Reader.refused g.R.Reader.comes_to g.R.Reader.no_memory g.R.Feed.feed_gives g.met.R.Reader.pieces g.met.R.Reader.lasts
          g.K.StopsAt.stop_of g.met.K.StopsAt.want c.args.name.now c.args.reader c.read_all_into.new.feed c.requires _ _ _ c.in-Ok.ensures.found c.in-Err-finish.fault read.ok c.in-Err-finish.ensures.err;
      no_file = read.created ∙ c.in-Ok.ensures.created;
      input_count = count_stays g.row.R-Value.Denot (g.K.StopsAt.stop_of c.in-Err-finish.fault) _ _ (g.met.K.StopsAt.no_call c.in-Err-finish.fault) (read.input_count ∙ c.in-Ok.ensures.input_count);
      output_count = read.output_count ∙ c.in-Ok.ensures.output_count;
      memory_once = g.met.K.StopsAt.memory_once c.in-Err-finish.fault;
    })

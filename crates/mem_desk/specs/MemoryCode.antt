-- How a desk in memory is stored as a tuple, so that proofs can tell two of them apart; no clause speaks of it.
use Rattle.std.specs.Prelude.{◌≡◌, ℕ, zero, suc, List, refl}
use Rattle.std.specs.FinMap as map
use Rattle.std.specs.Coded.{Coded, code_by, coded×, coded_ℕ, coded_bool, coded_list}
use Rattle.desk_io.specs.Contents.{Contents}
use Rattle.mem_desk.specs.Memory.{Memory, Calls}
use Rattle.mem_desk.specs.declared.calls.Call.{Call}
use Rattle.mem_desk.specs.declared.calls.Call.TheVariants.{OpenIn, Read, Create, Write, Say}

-- a kind of call is stored as its place among them
abbrev call_place : Call → ℕ
call_place OpenIn = 0
call_place Read = 1
call_place Create = 2
call_place Write = 3
call_place Say = 4

abbrev call_at : ℕ → Call
call_at zero = OpenIn
call_at (suc zero) = Read
call_at (suc (suc zero)) = Create
call_at (suc (suc (suc zero))) = Write
call_at (suc (suc (suc (suc n)))) = Say

abbrev same_call : (call : Call) → call_at (call_place call) ≡ call
same_call OpenIn = refl
same_call Read = refl
same_call Create = refl
same_call Write = refl
same_call Say = refl

-- a text, what a desk tells, and the calls that were made
abbrev text_code : Coded (List ℕ)
text_code = coded_list coded_ℕ

abbrev contents_code : Coded Contents
contents_code = code_by _
    (coded× (map.code text_code text_code) (coded× coded_bool (coded× text_code (coded× text_code (coded× (coded_list (coded× text_code text_code)) (coded× text_code text_code))))))
    (λ (a : Contents). (a.files, (a.steady, (a.input, (a.rest, (a.earlier, (a.out, a.said)))))))
    (λ t. record { files = t.0; steady = t.1.0; input = t.1.1.0; rest = t.1.1.1.0; earlier = t.1.1.1.1.0; out = t.1.1.1.1.1.0; said = t.1.1.1.1.1.1 })
    (λ _. refl)

abbrev calls_code : Coded Calls
calls_code = code_by _
    (coded× coded_ℕ (coded× coded_ℕ (coded× coded_ℕ (coded× coded_ℕ coded_ℕ))))
    (λ (c : Calls). (c.opens, (c.reads, (c.creates, (c.writes, c.says)))))
    (λ t. record { opens = t.0; reads = t.1.0; creates = t.1.1.0; writes = t.1.1.1.0; says = t.1.1.1.1 })
    (λ _. refl)

-- and a desk as the tuple of its fields
abbrev pub memory_code : Coded Memory
memory_code = code_by _
    (coded× contents_code (coded× coded_bool (coded× coded_bool (coded× coded_ℕ (coded× coded_ℕ (coded× coded_ℕ (coded×
    (coded_list (coded× (code_by ℕ coded_ℕ call_place call_at same_call) coded_ℕ)) calls_code)))))))
    (λ (m : Memory). (m.contents, (m.is_open, (m.is_created, (m.input_faults, (m.output_faults, (m.bite, (m.failing, m.made))))))))
    (λ t. record {
      contents = t.0;
      is_open = t.1.0;
      is_created = t.1.1.0;
      input_faults = t.1.1.1.0;
      output_faults = t.1.1.1.1.0;
      bite = t.1.1.1.1.1.0;
      failing = t.1.1.1.1.1.1.0;
      made = t.1.1.1.1.1.1.1;
    })
    (λ _. refl)

-- How the partition of an address is found.
use Rattle.std.specs.Prelude.{◌≡◌, ℕ, List, Option, None, find, ◌==◌, slice_index_or}
use Rattle.std.specs.Option.{option_map}
use Rattle.levels.specs.declared.level.Partition.{Partition}
use Rattle.levels.specs.declared.rows.HostRow.{HostRow}

-- At each address stands the partition of its host, and none past the last one.
abbrev pub IsIndexed : List HostRow → List (Option Partition) → Type 0
IsIndexed hosts partitions =
    (address : ℕ) → slice_index_or partitions address None
    ≡ option_map (λ host. host.partition) (find (λ host. host.address == address) hosts)

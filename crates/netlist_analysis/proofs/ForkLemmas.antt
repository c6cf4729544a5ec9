-- The forks of a netlist are forks of its system.
use Rattle.std.proofs.Common.{◌*◌, length, All, slice_index_or}
use Rattle.std.proofs.lemmas.List.Elements.{All-map}
use Rattle.netlist_model.specs.Circuit.{Circuit}
use Rattle.netlist_model.specs.Sound as sound
use Rattle.event_expand.specs.Systems.{system_fork, system_forks}
use Rattle.analysis.specs.Forks.{IsFork}

pub forks_within : (c : Circuit) → sound.IsNetlist c → All (IsFork (2 * length c.nets)) (system_forks c)
forks_within c is = All-map (IsFork (2 * length c.nets)) system_fork c.forks
    (λ k d within. let f : sound.IsFork (length c.nets) (slice_index_or c.forks k d) = is.forks k d within in (f.root, (f.fast, f.slow, f.margin, f.offset)))

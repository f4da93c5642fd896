use Rattle.frame.proofs.KernelLaws as laws
use Rattle.frame.proofs.Frame.is_kernel_mode.Goals as goal

pub returns : goal.returns
returns c = laws.kernel c.args.self

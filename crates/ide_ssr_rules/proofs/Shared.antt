-- The lemmas that the crates above may cite. The other files of lemmas here are this crate's own.

-- what a rule resolves to has a template in each kind
pub use Rattle.ide_ssr_rules.proofs.ResolvedTemplates.{have_templates, have_templates_of}
pub use Rattle.ide_ssr_rules.proofs.Once.{have_templates_once, have_templates_once_of}
